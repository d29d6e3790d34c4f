-- The files that the shelf was turned to.
use Rattle.std.specs.Prelude.{◌≡◌, ◌⊎◌, ℕ, zero, suc, List, [], ◌∷◌, ◌++◌, Option, Some, None, IfSome, MatchOption, slice_get}
use Rattle.rdf_values.specs.{MarkedTable, Script}
use Rattle.input_files.specs.{AreTurnedTo, HoldsTheScript, HoldsTheTable}
use Rattle.chain_files.specs.{IsPartText, PartView}
use Rattle.chain_due.specs.{Files}
use Rattle.chain_words.specs.{asked_of, ChainCommand}
use Rattle.chain_words.specs.declared.command.ChainCommand.TheVariants.{Run, Map, Join, Print}

-- ---- files that were read

abbrev pub HoldsScript : Option (List ℕ) → Type 0
HoldsScript file = (script : Script) × HoldsTheScript script file

abbrev pub HoldsTable : Option (List ℕ) → Type 0
HoldsTable file = (table : MarkedTable) × HoldsTheTable table file

abbrev pub HoldsPart : Option (List ℕ) → Type 0
HoldsPart None = ⊥
HoldsPart (Some bytes) = (part : PartView) × IsPartText bytes part

-- ---- turns

-- the shelf was turned to the first ones of these names, in order: to each but the first only where what is before it was read
abbrev pub AreTurned : (List ℕ → Type 0) → List (List ℕ) → List (List ℕ) → List (List ℕ) → Type 0
AreTurned IsRead [] before after = after ≡ before
AreTurned IsRead (name ∷ names) before after = (after ≡ before) ⊎ ((after ≡ before ++ name ∷ []) ⊎ (IsRead name × AreTurned IsRead names (before ++ name ∷ []) after))

-- the name of a command's script, and those of its other files in order
abbrev pub script_in : ChainCommand → List ℕ
script_in (Run r) = r.script
script_in (Map m) = m.script
script_in (Join j) = j.script
script_in (Print p) = p.script

abbrev pub others_in : ChainCommand → List (List ℕ)
others_in (Run r) = r.tables
others_in (Map m) = m.table ∷ []
others_in (Join j) = j.parts
others_in (Print p) = p.part ∷ []

-- the file of a table, or of a part, where the shelf tells its files
abbrev pub IsTableFile : Option Files → List ℕ → Type 0
IsTableFile told name = IfSome told (λ files. HoldsTable (files name))

abbrev pub IsPartFile : Option Files → List ℕ → Type 0
IsPartFile told name = IfSome told (λ files. HoldsPart (files name))

-- what one of a command's other files is
abbrev pub IsOtherRead : Option Files → ChainCommand → List ℕ → Type 0
IsOtherRead told (Run r) name = IsTableFile told name
IsOtherRead told (Map m) name = IsTableFile told name
IsOtherRead told (Join j) name = IsPartFile told name
IsOtherRead told (Print p) name = IsPartFile told name

-- the file at a place was read: the script's first, then the others
abbrev pub IsFileRead : Option Files → ChainCommand → ℕ → Type 0
IsFileRead told command zero = IfSome told (λ files. HoldsScript (files (script_in command)))
IsFileRead told command (suc i) = MatchOption (slice_get (others_in command) i) ⊥ (IsOtherRead told command)

-- the script and then the others, each once
abbrev pub AreCommandsTurns : ChainCommand → Option Files → List (List ℕ) → List (List ℕ) → Type 0
AreCommandsTurns command told before after = AreTurnedTo (script_in command ∷ others_in command) (IsFileRead told command) before after

-- none where the words aren't taken
abbrev pub TurnsBesides : List (List ℕ) → Option Files → List (List ℕ) → List (List ℕ) → Type 0
TurnsBesides words told before after = MatchOption (asked_of words) (after ≡ before) (λ command. AreCommandsTurns command told before after)
