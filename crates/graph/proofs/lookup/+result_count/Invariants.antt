use Rattle.lemmas.proofs.{length}
use Rattle.graph.proofs.lookup.+result_count.Given as goal

abbrev pub decreases-result_count : goal.decreases-result_count
decreases-result_count l = length l.before.now
