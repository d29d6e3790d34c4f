use Rattle.lemmas.proofs.{length}
use Rattle.snapshot_plan.proofs.amounts.+node_count.Given as goal

abbrev pub decreases-node_count : goal.decreases-node_count
decreases-node_count l = length l.before.now
