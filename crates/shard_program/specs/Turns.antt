-- The files that are turned to.
use Rattle.std.specs.Prelude.{◌≡◌, ℕ, zero, suc, List, [], ◌∷◌, Option, Some, None, IfSome, MatchOption}
use Rattle.rdf_values.specs.{Script}
use Rattle.input_files.specs.{AreTurnedTo, HoldsTheScript}
use Rattle.shard_files.specs.{IsShardText, ShardView}
use Rattle.shard_words.specs.{asked_of, ShardCommand}
use Rattle.shard_words.specs.declared.command.ShardCommand.TheVariants.{Run, Merge}
use Rattle.shard_due.specs.{Files, name_at}

-- the file holds some script
abbrev pub HoldsAScript : Option (List ℕ) → Type 0
HoldsAScript file = (script : Script) × HoldsTheScript script file

-- the file is the text of some shard
abbrev pub HoldsAShard : Option (List ℕ) → Type 0
HoldsAShard None = ⊥
HoldsAShard (Some bytes) = (shard : ShardView) × IsShardText bytes shard

-- that a script was read of the file, where the shelf tells its files
abbrev pub IsScriptRead : Option Files → List ℕ → Type 0
IsScriptRead told name = IfSome told (λ files. HoldsAScript (files name))

-- that a shard was read of the file of that number
abbrev pub IsShardRead : Option Files → List (List ℕ) → ℕ → Type 0
IsShardRead told names i = IfSome told (λ files. HoldsAShard (files (name_at names i)))

-- what holds of the first number, and of those behind it
abbrev pub AtFirst : Type 0 → (ℕ → Type 0) → ℕ → Type 0
AtFirst First Others zero = First
AtFirst First Others (suc i) = Others i

-- the files of a command, in the order in which they are turned to
abbrev pub names_of : ShardCommand → List (List ℕ)
names_of (Run run) = run.script ∷ run.table ∷ []
names_of (Merge m) = m.script ∷ m.files

-- that the file of that number was read, so that the next one may be turned to; none follows the table of a run
abbrev pub IsReadIn : ShardCommand → Option Files → ℕ → Type 0
IsReadIn (Run run) told = AtFirst (IsScriptRead told run.script) (λ i. ⊥)
IsReadIn (Merge m) told = AtFirst (IsScriptRead told m.script) (IsShardRead told m.files)

-- no file where the words aren't taken, and otherwise the first ones of the command's
abbrev pub AreTurns : List (List ℕ) → Option Files → List (List ℕ) → List (List ℕ) → Type 0
AreTurns words told before after = MatchOption (asked_of words) (after ≡ before) (λ command. AreTurnedTo (names_of command) (IsReadIn command told) before after)
