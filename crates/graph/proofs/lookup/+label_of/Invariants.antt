use Rattle.lemmas.proofs.{length}
use Rattle.graph.proofs.lookup.+label_of.Given as goal

abbrev pub decreases-label_of : goal.decreases-label_of
decreases-label_of l = length l.lines.now
