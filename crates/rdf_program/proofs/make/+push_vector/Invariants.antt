use Rattle.lemmas.proofs.{length}
use Rattle.rdf_program.proofs.make.+push_vector.Given as goal

abbrev pub decreases-push_vector : goal.decreases-push_vector
decreases-push_vector l = length l.elements.now
