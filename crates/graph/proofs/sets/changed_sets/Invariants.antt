use Rattle.lemmas.proofs.{length, map, take}
use Rattle.graph.specs.{AreSets, set_changed}
use Rattle.graph.proofs.sets.changed_sets.Given as goal

abbrev pub invariant-loop-column : goal.invariant-loop-column
invariant-loop-column l = AreSets (map (set_changed l.before l.change.parent.now (length l.change.tags.now)) (take l.column-index l.change.columns.now)) l.sets.items
