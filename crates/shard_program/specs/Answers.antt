-- What the program answers before anything is written.
use Rattle.std.specs.Prelude.{◌≡◌, ℕ, List, Option, IfSome, MatchOption}
use Rattle.rdf_outside.specs.{Rose}
use Rattle.rdf_values.specs.{Function, read_failed_line}
use Rattle.input_files.specs.{due_of, IsLast}
use Rattle.shard_words.specs.{asked_of}
use Rattle.shard_due.specs.{Files, IsDueToCommand, IsFinal, ShardDue, ShardStatus, usage_line}
use Rattle.shard_due.specs.declared.status.ShardStatus.TheVariants.{Memory, ReadFault, Words, WriteFault}
use Rattle.shard_program.specs.declared.answer.Answer.{Answer}

-- a status that comes once the words are taken
abbrev pub IsOfFiles : ShardStatus → Type 0
IsOfFiles Memory = ⊥
IsOfFiles Words = ⊥
IsOfFiles WriteFault = ⊥
IsOfFiles status = Unit {0}

abbrev pub due_in : Answer → ShardDue
due_in answer = due_of answer.status answer.text

-- the answer is due
pub record Answers (IsDueTo : ShardDue → Type 0) (answer : Answer) : Type 0 where
  pub of_files : IsOfFiles answer.status
  pub final : IsFinal answer.status
  pub is_due : IsDueTo (due_in answer)

-- the shelf failed, and the text is the line of a failed read, with the name of the file that was turned to last
pub record IsFailedRead (turns : List (List ℕ)) (before now : ℕ) (text : List ℕ) : Type 0 where
  pub rose : Rose before now
  pub name : List ℕ
  pub last : IsLast turns name
  pub line : text ≡ read_failed_line name

-- what is due to the files, where the shelf tells them; or the line of a failed read
pub record IsAnswer (IsDueTo : Files → ShardDue → Type 0) (told : Option Files) (turns : List (List ℕ)) (before now : ℕ) (answer : Answer) : Type 0 where
  pub of_files : IsOfFiles answer.status
  pub failed : answer.status ≡ ReadFault → IsFailedRead turns before now answer.text
  pub is_due : IsFinal answer.status → IfSome told (λ files. IsDueTo files (due_in answer))

-- to words that aren't taken the usage line, and to others what is answered to the files
abbrev pub AnswersWords : List Function → List (List ℕ) → Option Files → List (List ℕ) → ℕ → ℕ → Answer → Type 0
AnswersWords fns words told turns before now answer =
    MatchOption (asked_of words) (due_in answer ≡ due_of Words usage_line) (λ command. IsAnswer (IsDueToCommand fns command) told turns before now answer)
