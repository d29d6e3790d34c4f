use Rattle.lemmas.proofs.{length}
use Rattle.graph.proofs.lookup.+target_of.Given as goal

abbrev pub decreases-target_of : goal.decreases-target_of
decreases-target_of l = length l.before.now
