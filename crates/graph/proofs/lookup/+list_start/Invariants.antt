use Rattle.lemmas.proofs.{length}
use Rattle.graph.proofs.lookup.+list_start.Given as goal

abbrev pub decreases-list_start : goal.decreases-list_start
decreases-list_start l = length l.lists.now
