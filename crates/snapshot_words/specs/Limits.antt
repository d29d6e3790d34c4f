-- What holds of each command that is asked for.
use Rattle.std.specs.Prelude.{◌≡◌, ◌≤◌, ◌<◌, ℕ, true, List, Some, length}
use Rattle.std.specs.List.{list_all}
use Rattle.rdf_values.specs.{is_name}
use Rattle.snapshot_words.specs.Asked.{asked_of}
use Rattle.snapshot_words.specs.declared.command.SnapCommand.{SnapCommand}

-- 1 to 64 columns by their names, 1 to 16 slots, and clusters of 1 to 1,000,000 entries
pub record IsAsked (c : SnapCommand) : Type 0 where
  pub some : 0 < length c.columns
  pub few : length c.columns ≤ 64
  pub named : list_all is_name c.columns ≡ true
  pub slots : (0 < c.slots) × (c.slots ≤ 16)
  pub cluster : (1 ≤ c.cluster) × (c.cluster ≤ 1000000)

abbrev pub CommandsArePlans : Type 0
CommandsArePlans = (words : List (List ℕ)) (c : SnapCommand) → asked_of words ≡ Some c → IsAsked c
