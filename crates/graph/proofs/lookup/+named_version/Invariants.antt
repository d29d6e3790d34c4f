use Rattle.lemmas.proofs.{length}
use Rattle.graph.proofs.lookup.+named_version.Given as goal

abbrev pub decreases-named_version : goal.decreases-named_version
decreases-named_version l = length l.before.now
