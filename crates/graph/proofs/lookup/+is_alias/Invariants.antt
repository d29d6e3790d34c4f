use Rattle.lemmas.proofs.{length}
use Rattle.graph.proofs.lookup.+is_alias.Given as goal

abbrev pub decreases-is_alias : goal.decreases-is_alias
decreases-is_alias l = length l.before.now
