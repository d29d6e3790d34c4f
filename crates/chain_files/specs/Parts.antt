-- Part files: which values are a part of a chain, the lines of its text, and where bytes are no part.
use Rattle.std.specs.Prelude.{◌≡◌, ◌≤◌, ◌<◌, ◌+◌, ◌-◌, ◌*◌, ◌^◌, ⊤, ℕ, Bool, true, ◌&&◌, ◌||◌, List, [], ◌∷◌, ◌++◌, length, map, flat_map, Some, nat_eq, nat_le, codes, decimal}
use Rattle.std.specs.List.{list_all}
use Rattle.rdf_values.specs.{Column, is_name, IsHeader, line}
use Rattle.shard_lines.specs.{FitLines, joined_words, line_words, LineLimits}
use Rattle.shard_files.specs.{fault_number, kind_word}
use Rattle.chain_files.specs.declared.chain_fault.ChainFault.{ChainFault}
use Rattle.chain_files.specs.declared.part_line.PartLine.{PartLine}
use Rattle.chain_files.specs.declared.refusal.PartRefusal.{PartRefusal}
use Rattle.chain_files.specs.declared.refusal.PartRefusal.TheVariants.{Memory, Syntax}
use Rattle.chain_files.specs.declared.part.PartFields.{PartFields}
use Rattle.chain_files.specs.declared.part_loop.PartLoop.{PartLoop}
use Rattle.chain_files.specs.declared.part_loop.PartLoop.TheVariants.{Whole, Faulted}

-- what a contract sees of a part: the first file and the one behind the last, how many entries they have together, the digest
-- of the script, the columns and the loops
pub record PartView : Type 0 where
  pub first_file : ℕ
  pub end_file : ℕ
  pub entries : ℕ
  pub script : List ℕ
  pub columns : List Column
  pub loops : List PartLoop

abbrev pub view_of : PartFields → PartView
view_of p = record { first_file = p.first_file; end_file = p.end_file; entries = p.entries; script = p.script; columns = p.columns; loops = p.loops }

-- ---- limits

-- what so many entries come to at most: a count is one each; a sum has 4,096 numbers of 64 bits each, a cell's sum as many
-- weights below 2 to the 31st power, and its squares those weights' squares
abbrev pub part_limits : ℕ → LineLimits
part_limits n = record { count = n; values = Some n; sum = n * 2 ^ 75; cell_sum = n * 2 ^ 43; cell_squares = n * 2 ^ 74 }

-- those of the longest chain: 16777216 files of 1000000 entries
abbrev pub widest : LineLimits
widest = part_limits 16777216000000

-- a digit from 0 to 9 or a to f
abbrev pub is_hex : ℕ → Bool
is_hex b = (nat_le 48 b && nat_le b 57) || (nat_le 97 b && nat_le b 102)

-- 16 such digits
abbrev pub is_digest : List ℕ → Bool
is_digest w = nat_eq (length w) 16 && list_all is_hex w

-- the fault is in one of the files
abbrev pub FitsFault : ℕ → ℕ → ChainFault → Type 0
FitsFault first end f = (first ≤ f.file) × (f.file < end) × (f.entry < 1000000) × (f.pass < 8256)

-- each loop has a line or is faulty, and no loop follows a faulty one
abbrev pub FitLoops : ℕ → ℕ → ℕ → List PartLoop → Type 0
FitLoops first end n [] = ⊤
FitLoops first end n (Whole ls ∷ loops) = (0 < length ls) × FitLines (part_limits n) ls × FitLoops first end n loops
FitLoops first end n (Faulted f ∷ []) = FitsFault first end f
FitLoops first end n (Faulted f ∷ next ∷ loops) = ⊥

-- what every part meets
pub record IsPart (s : PartView) : Type 0 where
  pub files : s.first_file < s.end_file
  pub within : s.end_file ≤ 16777216
  pub entries : s.entries ≤ 1000000 * (s.end_file - s.first_file)
  pub digest : is_digest s.script ≡ true
  pub header : IsHeader s.columns
  pub named : list_all (λ (c : Column). is_name c.name) s.columns ≡ true
  pub loops : FitLoops s.first_file s.end_file s.entries s.loops

-- ---- lines

-- the words of a line
abbrev pub words_of : PartLine → List (List ℕ)
words_of PartLine.Version = codes "rdfpart" ∷ codes "1" ∷ []
words_of (PartLine.Files first end) = codes "files" ∷ decimal first ∷ decimal end ∷ []
words_of (PartLine.Entries n) = codes "entries" ∷ decimal n ∷ []
words_of (PartLine.Script w) = codes "script" ∷ w ∷ []
words_of (PartLine.Column c) = codes "column" ∷ c.name ∷ kind_word c.kind ∷ []
words_of PartLine.Loop = codes "loop" ∷ []
words_of (PartLine.Pass l) = line_words l
words_of (PartLine.Fault f) = codes "fault" ∷ decimal f.file ∷ decimal f.entry ∷ decimal f.pass ∷ decimal (fault_number f.kind) ∷ []
words_of PartLine.End = codes "end" ∷ []

-- the words with one space between, and LF
unfoldable pub line_text : PartLine → List ℕ
line_text l = line (joined_words (words_of l))

-- ---- the text of a part

abbrev pub loop_lines : PartLoop → List PartLine
loop_lines (Whole ls) = PartLine.Loop ∷ map PartLine.Pass ls
loop_lines (Faulted f) = PartLine.Loop ∷ PartLine.Fault f ∷ []

-- up to the columns
abbrev pub head_lines : PartView → List PartLine
head_lines s = PartLine.Version ∷ PartLine.Files s.first_file s.end_file ∷ PartLine.Entries s.entries ∷ PartLine.Script s.script ∷ map PartLine.Column s.columns

abbrev pub part_lines : PartView → List PartLine
part_lines s = head_lines s ++ (flat_map loop_lines s.loops ++ PartLine.End ∷ [])

abbrev pub lines_text : List PartLine → List ℕ
lines_text ls = flat_map line_text ls

-- the one text of a part
abbrev pub part_text : PartView → List ℕ
part_text s = lines_text (part_lines s)

-- the bytes are the text of a part
pub record IsPartText (bytes : List ℕ) (s : PartView) : Type 0 where
  pub text : part_text s ≡ bytes
  pub valid : IsPart s

-- ---- where bytes are no part

-- some part begins with these lines
pub record Begins (ls : List PartLine) : Type 0 where
  pub part : PartView
  pub valid : IsPart part
  pub more : List PartLine
  pub lines : part_lines part ≡ ls ++ more

-- the lines are all of some part
pub record IsAll (ls : List PartLine) : Type 0 where
  pub part : PartView
  pub valid : IsPart part
  pub lines : part_lines part ≡ ls

-- the line of this number, from 1, is the first that no part has after the lines before it; it is the number after the last
-- line, where all lines begin a part and it isn't over. A last line without its LF is no line
pub record BreaksAt (bytes : List ℕ) (number : ℕ) : Type 0 where
  pub before : List PartLine
  pub rest : List ℕ
  pub text : bytes ≡ lines_text before ++ rest
  pub count : length before + 1 ≡ number
  pub begins : Begins before
  pub no_next : (l : PartLine) (after : List ℕ) → rest ≡ line_text l ++ after → Begins (before ++ l ∷ []) → ⊥
  pub not_over : rest ≡ [] → IsAll before → ⊥

-- why the bytes weren't read: the line at which they break, or want of memory
abbrev pub IsRefusal : List ℕ → PartRefusal → Type 0
IsRefusal bytes (Syntax number) = BreaksAt bytes number
IsRefusal bytes Memory = ⊤
