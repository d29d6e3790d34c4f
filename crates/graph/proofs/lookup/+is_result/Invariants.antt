use Rattle.lemmas.proofs.{length}
use Rattle.graph.proofs.lookup.+is_result.Given as goal

abbrev pub decreases-is_result : goal.decreases-is_result
decreases-is_result l = length l.before.now
