use Rattle.lemmas.proofs.{length}
use Rattle.graph.proofs.amounts.+amounts_of.Given as goal

abbrev pub decreases-amounts_of : goal.decreases-amounts_of
decreases-amounts_of l = length l.rows.now
