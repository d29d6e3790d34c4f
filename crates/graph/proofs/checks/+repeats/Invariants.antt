use Rattle.lemmas.proofs.{length}
use Rattle.graph.proofs.checks.+repeats.Given as goal

abbrev pub decreases-repeats : goal.decreases-repeats
decreases-repeats l = length l.names.now
