-- What the program answers before anything is written.
use Rattle.std.specs.Prelude.{◌≡◌, ◌⊎◌, ℕ, List, Option, IfSome}
use Rattle.rdf_outside.specs.{Rose}
use Rattle.rdf_values.specs.{read_failed_line}
use Rattle.input_files.specs.{due_of, IsLast}
use Rattle.chain_due.specs.{ChainDue, ChainStatus, Files}
use Rattle.chain_due.specs.declared.status.ChainStatus.TheVariants.{Memory, Words, ReadFault, WriteFault, FileChanged}
use Rattle.chain_program.specs.declared.answer.Answer.{Answer}

-- a status that is due once the words are taken
abbrev pub IsOfFiles : ChainStatus → Type 0
IsOfFiles Memory = ⊥
IsOfFiles Words = ⊥
IsOfFiles ReadFault = ⊥
IsOfFiles WriteFault = ⊥
IsOfFiles FileChanged = ⊥
IsOfFiles status = Unit {0}

-- the answer is due
abbrev pub Answers : (ChainDue → Type 0) → Answer → Type 0
Answers IsDueTo answer = IsOfFiles answer.status × IsDueTo (due_of answer.status answer.text)

-- a read of the file that was turned to last failed
pub record IsUnread (turns : List (List ℕ)) (before now : ℕ) (answer : Answer) : Type 0 where
  pub status : answer.status ≡ ReadFault
  pub rose : Rose before now
  pub name : List ℕ
  pub last : IsLast turns name
  pub text : answer.text ≡ read_failed_line name

-- an answer to the files that are told: what is due to them, or a failed read
abbrev pub IsAnswer : (Files → ChainDue → Type 0) → Option Files → List (List ℕ) → ℕ → ℕ → Answer → Type 0
IsAnswer IsDueTo told turns before now answer = (IsOfFiles answer.status × IfSome told (λ files. IsDueTo files (due_of answer.status answer.text))) ⊎ IsUnread turns before now answer
