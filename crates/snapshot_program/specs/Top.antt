-- Which files the top call turns to.
use Rattle.std.specs.Prelude.{◌≡◌, ℕ, List, [], ◌∷◌, Option, MatchOption}
use Rattle.input_files.specs.{AreTurnedTo, Files}
use Rattle.snapshot_words.specs.{asked_of}
use Rattle.snapshot_program.specs.Answers.{IsScriptFile}

-- the script, and then the table where the script was read; none where the words aren't taken
abbrev pub TurnsBesides : List (List ℕ) → Option Files → List (List ℕ) → List (List ℕ) → Type 0
TurnsBesides words files before after =
    MatchOption (asked_of words) (after ≡ before) (λ c. AreTurnedTo (c.script ∷ c.table ∷ []) (IsScriptFile files c.script) before after)
