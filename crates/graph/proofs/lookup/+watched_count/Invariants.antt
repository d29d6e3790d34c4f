use Rattle.lemmas.proofs.{length}
use Rattle.graph.proofs.lookup.+watched_count.Given as goal

abbrev pub decreases-watched_count : goal.decreases-watched_count
decreases-watched_count l = length l.before.now
