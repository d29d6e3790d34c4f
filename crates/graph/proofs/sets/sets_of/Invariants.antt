use Rattle.lemmas.proofs.{take}
use Rattle.graph.specs.{AreSets, read_sets}
use Rattle.graph.proofs.sets.sets_of.Given as goal

abbrev pub invariant-loop-site : goal.invariant-loop-site
invariant-loop-site l = AreSets (read_sets l.versions (take l.site-index l.sites)) l.sets.items
