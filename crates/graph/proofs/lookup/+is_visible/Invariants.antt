use Rattle.lemmas.proofs.{length}
use Rattle.graph.proofs.lookup.+is_visible.Given as goal

abbrev pub decreases-is_visible : goal.decreases-is_visible
decreases-is_visible l = length l.before.now
