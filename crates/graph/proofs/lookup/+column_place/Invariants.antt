use Rattle.lemmas.proofs.{length}
use Rattle.graph.proofs.lookup.+column_place.Given as goal

abbrev pub decreases-column_place : goal.decreases-column_place
decreases-column_place l = length l.header.now
