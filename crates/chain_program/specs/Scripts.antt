-- What the stages of a script come to.
use Rattle.std.specs.Prelude.{◌≡◌, ◌≤◌, ℕ, List, Option, Some, None, length}
use Rattle.rdf_values.specs.{Function, history, IsBookable, IsScript, Script, StatementsHaveWords}
use Rattle.input_files.specs.{max_script, Tells, WithFile, WithScript}
use Rattle.chain_due.specs.{ChainDue, Files, IsJoinDue, IsMapDue, IsPrintDue, IsRunOver, statuses}
use Rattle.chain_words.specs.{ChainCommand}
use Rattle.chain_words.specs.declared.command.ChainCommand.TheVariants.{Run, Map, Join, Print}
use Rattle.chain_program.specs.Answers.{IsAnswer}
use Rattle.chain_program.specs.declared.answer.Read.{Read}
use Rattle.chain_program.specs.declared.answer.Read.TheVariants.{Whole, Refused}
use Rattle.chain_program.specs.declared.scripts.ScriptText.{ScriptText}

-- ---- the script of a file

-- the file of a script, and the script
abbrev pub WithText : Files → List ℕ → (List ℕ → Script → ChainDue → Type 0) → ChainDue → Type 0
WithText files name Next due = WithFile statuses name (files name) (λ bytes d. WithScript statuses bytes (Next bytes) d) due

-- the file holds the script, which is of these bytes
abbrev pub HoldsTheText : ScriptText → Option (List ℕ) → Type 0
HoldsTheText t None = ⊥
HoldsTheText t (Some bytes) = (t.bytes ≡ bytes) × (length bytes ≤ max_script) × IsScript bytes t.script

-- a script that can be booked
pub record IsText (told : Option Files) (name : List ℕ) (t : ScriptText) : Type 0 where
  pub holds : Tells told name (HoldsTheText t)
  pub bookable : IsBookable t.script
  pub words : StatementsHaveWords (history t.script)

-- the script that the file holds, or why it holds none
abbrev pub ReadsText : Option Files → List ℕ → List (List ℕ) → ℕ → ℕ → Read ScriptText → Type 0
ReadsText told name turns before now (Whole t) = IsText told name t
ReadsText told name turns before now (Refused a) = IsAnswer (λ files d. WithText files name (λ bytes script e. ⊥) d) told turns before now a

-- ---- what is due to a command, by its script

abbrev pub IsDueToText : List Function → ChainCommand → ScriptText → Files → ChainDue → Type 0
IsDueToText fns (Run r) t files due = IsRunOver fns t.script r.tables files due
IsDueToText fns (Map m) t files due = IsMapDue fns t.bytes t.script m.number m.table files due
IsDueToText fns (Join j) t files due = IsJoinDue fns t.bytes t.script j.parts files due
IsDueToText fns (Print p) t files due = IsPrintDue fns t.bytes t.script p.count p.part files due
