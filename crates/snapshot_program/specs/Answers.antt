-- What the program answers before anything is written.
use Rattle.std.specs.Prelude.{◌≡◌, ◌<◌, ℕ, List, Option, None, IfSome}
use Rattle.rdf_outside.specs.{Rose}
use Rattle.rdf_values.specs.{Column, fn_names, Function, IsBookable, read_failed_line, Script, verdict}
use Rattle.table_csv.specs.{columns_over, marked_in}
use Rattle.input_files.specs.{due_of, Files, HoldsTheScript, HoldsTheTable, IsLast, Tells, WithScriptFile, WithTableFile}
use Rattle.snapshot_plan.specs.{SnapCause}
use Rattle.snapshot_words.specs.{asked_of, SnapCommand}
use Rattle.snapshot_due.specs.{cause_over, IsDue, IsFinal, plan_over, SnapshotDue, SnapshotStatus, statuses, usage_line, WithPlan}
use Rattle.snapshot_due.specs.declared.status.SnapshotStatus.TheVariants.{Memory, Words, ReadFault, WriteFault}
use Rattle.snapshot_program.specs.declared.answer.Answer.{Answer}
use Rattle.snapshot_program.specs.declared.inputs.SnapshotInputs.{SnapshotInputs}
use Rattle.snapshot_program.specs.declared.inputs.ReadInputs.{ReadInputs}
use Rattle.snapshot_program.specs.declared.planning.Planned.{Planned}

-- ---- over a table

-- a column that a cause names is one of so many
abbrev pub IsWithin : ℕ → SnapCause → Type 0
IsWithin n SnapCause.BadNode = Unit {0}
IsWithin n (SnapCause.BadColumn i) = i < n
IsWithin n SnapCause.BadVariation = Unit {0}
IsWithin n (SnapCause.TooMany m) = Unit {0}

-- a status that comes once both files were read
abbrev pub IsOfTable : SnapshotStatus → Type 0
IsOfTable Memory = ⊥
IsOfTable Words = ⊥
IsOfTable ReadFault = ⊥
IsOfTable WriteFault = ⊥
IsOfTable status = Unit {0}

-- the answer is due
abbrev pub Answers : (SnapshotDue → Type 0) → Answer → Type 0
Answers IsDueTo a = IsOfTable a.status × IsDueTo (due_of a.status a.text)

-- the plan that is asked for; or what is due where there is none
abbrev pub IsPlanned : List Function → SnapCommand → Script → List Column → Planned → Type 0
IsPlanned fns c script columns (Planned.Plan p) =
    (verdict (fn_names fns) columns script ≡ None) × (cause_over fns c script columns ≡ None) × (p ≡ plan_over fns c script columns)
IsPlanned fns c script columns (Planned.Refused a) = Answers (WithPlan fns c script columns (λ p d. ⊥)) a

-- ---- the files

-- an answer to files that a shelf tells: what is due to them, or the line of a failed read of the file that was turned to last
pub record AnswersFiles (IsDueTo : Files → SnapshotDue → Type 0) (files : Option Files) (turns : List (List ℕ)) (before now : ℕ) (a : Answer) : Type 0 where
  pub no_want : a.status ≡ Memory → ⊥
  pub no_write : a.status ≡ WriteFault → ⊥
  pub rose : a.status ≡ ReadFault → Rose before now
  pub named : a.status ≡ ReadFault → (name : List ℕ) × IsLast turns name × (a.text ≡ read_failed_line name)
  pub is_due : IsFinal a.status → IfSome files (λ f. IsDueTo f (due_of a.status a.text))

-- what is due where a file isn't there or is refused
abbrev pub RefusesFiles : SnapCommand → Files → SnapshotDue → Type 0
RefusesFiles c files due = WithScriptFile statuses c.script (files c.script) (λ script d. WithTableFile statuses c.table (files c.table) (λ t e. ⊥) d) due

-- the script's file holds a script
abbrev pub IsScriptFile : Option Files → List ℕ → ℕ → Type 0
IsScriptFile files name i = IfSome files (λ f. (s : Script) × HoldsTheScript s (f name))

-- the script of its file, and the columns of the table of its file over the clusters that are asked for
pub record AreInputs (c : SnapCommand) (files : Option Files) (inputs : SnapshotInputs) : Type 0 where
  pub script : Tells files c.script (HoldsTheScript inputs.script)
  pub table : Tells files c.table (HoldsTheTable (marked_in inputs.columns))
  pub bookable : IsBookable inputs.script
  pub over : inputs.columns ≡ columns_over (marked_in inputs.columns) c.cluster

-- the answer where a file gives nothing
pub record IsRefusal (c : SnapCommand) (files : Option Files) (turns : List (List ℕ)) (before now : ℕ) (a : Answer) : Type 0 where
  pub taken : a.status ≡ Words → ⊥
  pub answers : AnswersFiles (RefusesFiles c) files turns before now a

abbrev pub ReadsInputs : SnapCommand → Option Files → List (List ℕ) → ℕ → ℕ → ReadInputs → Type 0
ReadsInputs c files turns before now (ReadInputs.Both inputs) = AreInputs c files inputs
ReadsInputs c files turns before now (ReadInputs.Refused a) = IsRefusal c files turns before now a

-- ---- the words

pub record IsAnswer (fns : List Function) (words : List (List ℕ)) (files : Option Files) (turns : List (List ℕ)) (before now : ℕ) (a : Answer) : Type 0 where
  pub untaken : a.status ≡ Words → (asked_of words ≡ None) × (a.text ≡ usage_line)
  pub taken : asked_of words ≡ None → a.status ≡ Words
  pub answers : AnswersFiles (IsDue fns words) files turns before now a
