use Rattle.lemmas.proofs.{length}
use Rattle.graph.proofs.loops.+push_passes.Given as goal

abbrev pub decreases-push_passes : goal.decreases-push_passes
decreases-push_passes l = length l.results.now
