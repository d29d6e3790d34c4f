use Rattle.lemmas.proofs.{length}
use Rattle.graph.proofs.lookup.+is_watchable.Given as goal

abbrev pub decreases-is_watchable : goal.decreases-is_watchable
decreases-is_watchable l = length l.before.now
