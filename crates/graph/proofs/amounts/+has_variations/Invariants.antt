use Rattle.lemmas.proofs.{length}
use Rattle.graph.proofs.amounts.+has_variations.Given as goal

abbrev pub decreases-has_variations : goal.decreases-has_variations
decreases-has_variations l = length l.before.now
