use Rattle.lemmas.proofs.{length}
use Rattle.graph.proofs.checks.+check_targets.Given as goal

abbrev pub decreases-check_targets : goal.decreases-check_targets
decreases-check_targets l = length l.columns.now
