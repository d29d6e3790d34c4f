use Rattle.cluster_tally.proofs.BlockFeeds.{begins_block, ends_block}
use Rattle.cluster_tally.proofs.Closing.{fresh_holds}
use Rattle.cluster_tally.proofs.laws.laws_hold.Goals as goal

pub returns : goal.returns
returns c = record { fresh = fresh_holds; begins = begins_block; ends = ends_block }
