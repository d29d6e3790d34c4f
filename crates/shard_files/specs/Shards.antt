-- Shard files: which values are a shard, the lines of its text, and where bytes are no shard.
use Rattle.std.specs.Prelude.{◌≡◌, ◌≤◌, ◌<◌, ◌+◌, ⊤, ℕ, true, List, [], ◌∷◌, ◌++◌, length, map, flat_map, None, codes, decimal}
use Rattle.std.specs.List.{list_all}
use Rattle.rdf_values.specs.{ColType, Column, EntryFault, Fault, is_name, IsHeader, line}
use Rattle.rdf_values.specs.declared.results.EntryFault.TheVariants.{Overflow, ZeroDivisor, Index, EmptyVector, Lengths, VaryCount, Weight, Function}
use Rattle.shard_lines.specs.{FitLines, joined_words, line_words, LineLimits}
use Rattle.shard_files.specs.declared.file_line.FileLine.{FileLine}
use Rattle.shard_files.specs.declared.refusal.ShardRefusal.{ShardRefusal}
use Rattle.shard_files.specs.declared.refusal.ShardRefusal.TheVariants.{Memory, Syntax}
use Rattle.shard_files.specs.declared.shard.ShardParts.{ShardParts}
use Rattle.shard_files.specs.declared.shard_loop.ShardLoop.{ShardLoop}
use Rattle.shard_files.specs.declared.shard_loop.ShardLoop.TheVariants.{Whole, Faulted}

-- what a contract sees of a shard
pub record ShardView : Type 0 where
  pub entries : ℕ
  pub clusters : ℕ
  pub columns : List Column
  pub lo : ℕ
  pub hi : ℕ
  pub loops : List ShardLoop

abbrev pub view_of : ShardParts → ShardView
view_of p = record { entries = p.entries; clusters = p.clusters; columns = p.columns; lo = p.lo; hi = p.hi; loops = p.loops }

-- ---- limits

-- counts are at most 4294967295, and the absolute values of sums are below 2 to the 96th power
abbrev pub shard_limits : LineLimits
shard_limits = record { count = 4294967295; values = None; sum = 79228162514264337593543950335; cell_sum = 79228162514264337593543950335; cell_squares = 79228162514264337593543950335 }

abbrev pub FitsFault : Fault → Type 0
FitsFault f = (f.entry < 1000000) × (f.pass < 8256)

-- each loop has a line or is faulty, and no loop follows a faulty one
abbrev pub FitLoops : List ShardLoop → Type 0
FitLoops [] = ⊤
FitLoops (Whole ls ∷ loops) = (0 < length ls) × FitLines shard_limits ls × FitLoops loops
FitLoops (Faulted f ∷ []) = FitsFault f
FitLoops (Faulted f ∷ next ∷ loops) = ⊥

-- what every shard meets
pub record IsShard (s : ShardView) : Type 0 where
  pub entries : s.entries ≤ 1000000
  pub clusters : s.clusters ≤ 1000000
  pub header : IsHeader s.columns
  pub named : list_all (λ (c : Column). is_name c.name) s.columns ≡ true
  pub span : s.lo ≤ s.hi
  pub within : s.hi ≤ s.clusters
  pub loops : FitLoops s.loops

-- ---- lines

-- the type of a column, as a header writes it
abbrev pub kind_word : ColType → List ℕ
kind_word ColType.Int = codes "int"
kind_word ColType.Bool = codes "bool"
kind_word ColType.Vect = codes "vec"

-- the number of a fault, as in F1 to F8
abbrev pub fault_number : EntryFault → ℕ
fault_number Overflow = 1
fault_number ZeroDivisor = 2
fault_number Index = 3
fault_number EmptyVector = 4
fault_number Lengths = 5
fault_number VaryCount = 6
fault_number Weight = 7
fault_number Function = 8

-- the words of a line
abbrev pub words_of : FileLine → List (List ℕ)
words_of FileLine.Version = codes "rdfshard" ∷ codes "1" ∷ []
words_of (FileLine.Table entries clusters) = codes "table" ∷ decimal entries ∷ decimal clusters ∷ []
words_of (FileLine.Column c) = codes "column" ∷ c.name ∷ kind_word c.kind ∷ []
words_of (FileLine.Span lo hi) = codes "span" ∷ decimal lo ∷ decimal hi ∷ []
words_of FileLine.Loop = codes "loop" ∷ []
words_of (FileLine.Pass l) = line_words l
words_of (FileLine.Fault f) = codes "fault" ∷ decimal f.entry ∷ decimal f.pass ∷ decimal (fault_number f.kind) ∷ []
words_of FileLine.End = codes "end" ∷ []

-- the words with one space between, and LF
unfoldable pub line_text : FileLine → List ℕ
line_text l = line (joined_words (words_of l))

-- ---- the text of a shard

abbrev pub loop_lines : ShardLoop → List FileLine
loop_lines (Whole ls) = FileLine.Loop ∷ map FileLine.Pass ls
loop_lines (Faulted f) = FileLine.Loop ∷ FileLine.Fault f ∷ []

abbrev pub file_lines : ShardView → List FileLine
file_lines s =
    FileLine.Version ∷ FileLine.Table s.entries s.clusters ∷ (map FileLine.Column s.columns ++ FileLine.Span s.lo s.hi ∷ (flat_map loop_lines s.loops ++ FileLine.End ∷ []))

abbrev pub lines_text : List FileLine → List ℕ
lines_text ls = flat_map line_text ls

-- the one text of a shard
abbrev pub shard_text : ShardView → List ℕ
shard_text s = lines_text (file_lines s)

-- the bytes are the text of a shard
pub record IsShardText (bytes : List ℕ) (s : ShardView) : Type 0 where
  pub text : shard_text s ≡ bytes
  pub valid : IsShard s

-- ---- where bytes are no shard

-- some shard begins with these lines
pub record Begins (ls : List FileLine) : Type 0 where
  pub shard : ShardView
  pub valid : IsShard shard
  pub more : List FileLine
  pub lines : file_lines shard ≡ ls ++ more

-- the lines are all of some shard
pub record IsAll (ls : List FileLine) : Type 0 where
  pub shard : ShardView
  pub valid : IsShard shard
  pub lines : file_lines shard ≡ ls

-- the line of this number, from 1, is the first that no shard has after the lines before it; it is the number after the last
-- line, where all lines begin a shard and it isn't over. A last line without its LF is no line
pub record BreaksAt (bytes : List ℕ) (number : ℕ) : Type 0 where
  pub before : List FileLine
  pub rest : List ℕ
  pub text : bytes ≡ lines_text before ++ rest
  pub count : length before + 1 ≡ number
  pub begins : Begins before
  pub no_next : (l : FileLine) (after : List ℕ) → rest ≡ line_text l ++ after → Begins (before ++ l ∷ []) → ⊥
  pub not_over : rest ≡ [] → IsAll before → ⊥

-- why the bytes weren't read: the line at which they break, or want of memory
abbrev pub IsRefusal : List ℕ → ShardRefusal → Type 0
IsRefusal bytes (Syntax number) = BreaksAt bytes number
IsRefusal bytes Memory = ⊤
