use Rattle.lemmas.proofs.{length}
use Rattle.graph.proofs.checks.+check_lists.Given as goal

abbrev pub decreases-check_lists : goal.decreases-check_lists
decreases-check_lists l = length l.lists.now
