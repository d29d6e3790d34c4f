use Rattle.lemmas.proofs.{length}
use Rattle.graph.proofs.lookup.+named_on.Given as goal

abbrev pub decreases-named_on : goal.decreases-named_on
decreases-named_on l = length l.before.now
