use Rattle.lemmas.proofs.{length}
use Rattle.graph.proofs.sets.+set_of.Given as goal

abbrev pub decreases-set_of : goal.decreases-set_of
decreases-set_of l = length l.places.now
