-- What the program answers to its words.
use Rattle.std.specs.Prelude.{◌≡◌, ℕ, List, Option, MatchOption}
use Rattle.rdf_values.specs.{Function}
use Rattle.chain_due.specs.{Files, IsDueToCommand, usage_line}
use Rattle.chain_due.specs.declared.status.ChainStatus.TheVariants.{Words}
use Rattle.chain_words.specs.{asked_of}
use Rattle.chain_program.specs.Answers.{IsAnswer}
use Rattle.chain_program.specs.declared.answer.Answer.{Answer}

-- the usage line, where the words aren't taken; else an answer to the files
abbrev pub AnswersWords : List Function → List (List ℕ) → Option Files → List (List ℕ) → ℕ → ℕ → Answer → Type 0
AnswersWords fns words told turns before now answer =
    MatchOption (asked_of words) ((answer.status ≡ Words) × (answer.text ≡ usage_line)) (λ command. IsAnswer (IsDueToCommand fns command) told turns before now answer)
