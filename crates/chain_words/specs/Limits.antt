-- The numbers of a command.
use Rattle.std.specs.Prelude.{◌≤◌, ◌<◌, length}
use Rattle.chain_words.specs.declared.command.ChainCommand.{ChainCommand}
use Rattle.chain_words.specs.declared.command.ChainCommand.TheVariants.{Run, Map, Join, Print}
use Rattle.chain_words.specs.declared.command.Settings.{Settings}

-- 1 to 16 slots, and clusters of at least one entry
pub record AreSettings (s : Settings) : Type 0 where
  pub some_slots : 0 < s.slots
  pub few_slots : s.slots ≤ 16
  pub cluster : 1 ≤ s.cluster

-- the numbers of a command's files are within their limits
abbrev pub AreWithinLimits : ChainCommand → Type 0
AreWithinLimits (Run r) = (0 < length r.tables) × (length r.tables ≤ 16384) × AreSettings r.settings
AreWithinLimits (Map m) = (m.number < 16777216) × AreSettings m.settings
AreWithinLimits (Join j) = 0 < length j.parts
AreWithinLimits (Print p) = 0 < p.count
