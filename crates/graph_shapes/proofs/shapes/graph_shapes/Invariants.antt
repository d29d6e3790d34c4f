use Rattle.lemmas.proofs.{◌≡◌, length, take}
use Rattle.graph_numbers.specs.{graph_loops}
use Rattle.graph_shapes.specs.{graph_shapes}
use Rattle.graph_shapes.proofs.shapes.graph_shapes.Given as goal

abbrev pub invariant-loop-number : goal.invariant-loop-number
invariant-loop-number l = (l.all ≡ take l.number (graph_shapes l.graph)) × (l.number-end ≡ length (graph_loops l.graph))
