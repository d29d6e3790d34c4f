-- What the stages of a command's parts come to.
use Rattle.std.specs.Prelude.{◌≡◌, ◌≤◌, ◌<◌, ◌+◌, ⊤, ℕ, true, List, [], ◌∷◌, ◌++◌, drop, length, nat_lt, Option, Some, None, IfSome, MatchOption}
use Rattle.std.specs.Bool.{MatchBool}
use Rattle.std.specs.List.{AllByRecursion}
use Rattle.rdf_values.specs.{fn_names, Function, Script, verdict}
use Rattle.graph_numbers.specs.{GraphView}
use Rattle.input_files.specs.{due_of, Tells, WithFile}
use Rattle.graph_shapes.specs.{graph_shapes}
use Rattle.shard_lines.specs.{PassShape}
use Rattle.chain_files.specs.{are_loops, digest_of, first_differing, first_misshapen, first_uncovered, IsFirstOther, IsPart, IsPartText, joined_parts, part_text, PartView}
use Rattle.chain_text.specs.{chain_text}
use Rattle.chain_due.specs.{ChainDue, Files, graph_over, IsText, long_files_line, max_parts, printed_status, ReadsPart, statuses, uncovered_line, WithFitting, WithParts}
use Rattle.chain_due.specs.declared.status.ChainStatus.TheVariants.{Done, NotCovered, TooLong}
use Rattle.chain_program.specs.Answers.{Answers, IsAnswer}
use Rattle.chain_program.specs.declared.answer.Read.{Read}
use Rattle.chain_program.specs.declared.answer.Read.TheVariants.{Whole, Refused}
use Rattle.chain_program.specs.declared.fitting.Fitting.{Fitting}
use Rattle.chain_program.specs.declared.parts.PartFile.{PartFile}

-- ---- a part's file

-- the file is the text of the part, of that size
abbrev pub HoldsThePart : PartView → Option (List ℕ) → ℕ → Type 0
HoldsThePart s None size = ⊥
HoldsThePart s (Some bytes) size = (length bytes ≡ size) × IsPartText bytes s

-- a part in a file of that size
pub record IsReadPart (told : Option Files) (name : List ℕ) (before : ℕ) (p : PartFile) : Type 0 where
  pub holds : Tells told name (λ file. HoldsThePart p.part file p.size)
  pub few : before + p.size ≤ max_parts
  pub valid : IsPart p.part

-- what is due to the file of a part, behind so many bytes
abbrev pub WithPart : Files → ℕ → List ℕ → (List ℕ → PartView → ChainDue → Type 0) → ChainDue → Type 0
WithPart files before name Next due =
    WithFile statuses name (files name) (λ bytes d. MatchBool (nat_lt max_parts (before + length bytes)) (d ≡ due_of TooLong long_files_line) (ReadsPart name bytes (Next bytes) d)) due

-- the part that the file holds, or why it holds none
abbrev pub ReadsThePart : Option Files → List ℕ → ℕ → List (List ℕ) → ℕ → ℕ → Read PartFile → Type 0
ReadsThePart told name before turns faults now (Whole p) = IsReadPart told name before p
ReadsThePart told name before turns faults now (Refused a) = IsAnswer (λ files d. WithPart files before name (λ bytes s e. ⊥) d) told turns faults now a

-- ---- all parts

-- the files hold the parts, in order, behind so many bytes
abbrev pub HoldParts : Files → ℕ → List (List ℕ) → List PartView → Type 0
HoldParts files before [] [] = ⊤
HoldParts files before [] (s ∷ ss) = ⊥
HoldParts files before (name ∷ names) [] = ⊥
HoldParts files before (name ∷ names) (s ∷ ss) = (bytes : List ℕ) × (files name ≡ Some bytes) × (before + length bytes ≤ max_parts) × IsPartText bytes s × HoldParts files (before + length bytes) names ss

-- the parts before a place were read, of so many bytes together; what the files hold, and what is due to them, is what it is from there on
pub record AreRead (told : Option Files) (names : List (List ℕ)) (place size : ℕ) (found : List PartView) : Type 0 where
  pub many : length found ≡ place
  pub few : size ≤ max_parts
  pub valid : AllByRecursion IsPart found
  pub hold : IfSome told (λ files. (more : List PartView) → HoldParts files size (drop place names) more → HoldParts files 0 names (found ++ more))
  pub due : IfSome told (λ files. (d : ChainDue) → WithParts files size found (drop place names) (λ ss e. ⊥) d → WithParts files 0 [] names (λ ss e. ⊥) d)

-- as many parts as names
pub record ArePartsOf (told : Option Files) (names : List (List ℕ)) (parts : List PartView) : Type 0 where
  pub many : length parts ≡ length names
  pub valid : AllByRecursion IsPart parts
  pub hold : IfSome told (λ files. HoldParts files 0 names parts)

-- the parts that the files hold, or why one holds none
abbrev pub ReadsParts : Option Files → List (List ℕ) → List (List ℕ) → ℕ → ℕ → Read (List PartView) → Type 0
ReadsParts told names turns before now (Whole parts) = ArePartsOf told names parts
ReadsParts told names turns before now (Refused a) = IsAnswer (λ files d. WithParts files 0 [] names (λ ss e. ⊥) d) told turns before now a

-- ---- parts of a script

-- the parts are of the script and of one list of columns, over which the script is accepted, and have its shapes
pub record FitScript (fns : List Function) (bytes : List ℕ) (script : Script) (first : PartView) (others : List PartView) (f : Fitting) : Type 0 where
  pub alike : first_differing (digest_of bytes) (first ∷ others) ≡ None
  pub accepted : verdict (fn_names fns) first.columns script ≡ None
  pub graph : f.graph ≡ graph_over fns script first.columns
  pub shapes : f.shapes ≡ graph_shapes (graph_over fns script first.columns)
  pub shaped : first_misshapen (graph_shapes (graph_over fns script first.columns)) (first ∷ others) ≡ None

abbrev pub AllFitScript : List Function → List ℕ → Script → List PartView → Fitting → Type 0
AllFitScript fns bytes script [] f = ⊥
AllFitScript fns bytes script (first ∷ others) f = FitScript fns bytes script first others f

-- the graph of the script over the parts' columns, or why the parts are none of the script
abbrev pub FitsScript : List Function → List ℕ → Script → List (List ℕ) → List PartView → Read Fitting → Type 0
FitsScript fns bytes script names parts (Whole f) = AllFitScript fns bytes script parts f
FitsScript fns bytes script names parts (Refused a) = Answers (λ d. WithFitting fns bytes script names parts (λ e. ⊥) d) a

-- ---- joining and printing

-- there are parts, of one script and one list of columns, and they have these shapes
pub record AreJoinable (f : Fitting) (parts : List PartView) : Type 0 where
  pub some : 0 < length parts
  pub script : List ℕ
  pub alike : first_differing script parts ≡ None
  pub shaped : first_misshapen f.shapes parts ≡ None

-- parts in the order of their files, joined by these shapes
abbrev pub IsJoinedBy : List (List PassShape) → List PartView → ChainDue → Type 0
IsJoinedBy shapes [] due = ⊥
IsJoinedBy shapes (first ∷ others) due =
    MatchOption (first_uncovered (first ∷ others)) (IsText Done (part_text (joined_parts shapes first others)) due) (λ file. due ≡ due_of NotCovered (uncovered_line file))

-- the part can be printed for the graph
abbrev pub CanPrint : GraphView → PartView → Type 0
CanPrint g s = IsPart s × (are_loops (graph_shapes g) s.loops ≡ true)

-- what the part of so many files prints
abbrev pub IsPrintedBy : GraphView → ℕ → PartView → ChainDue → Type 0
IsPrintedBy g count s due =
    (o : Option ℕ) × IsFirstOther count s o
    × MatchOption o (IsText (printed_status (chain_text g s.loops).status) (chain_text g s.loops).bytes due) (λ file. due ≡ due_of NotCovered (uncovered_line file))
