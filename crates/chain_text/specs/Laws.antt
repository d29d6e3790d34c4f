-- A law of what is printed. It is the contract of a function of this crate, and so proved.
use Rattle.std.specs.Prelude.{◌≡◌, true, map}
use Rattle.rdf_values.specs.{ColType, Pass}
use Rattle.graph_numbers.specs.{GraphView}
use Rattle.shard_spans.specs.{loops_of, pass_shapes}
use Rattle.chain_files.specs.{are_loops, IsPart, PartView}
use Rattle.chain_text.specs.ChainPrints.{FitGraph}

-- the loops of a part that have the shapes of a graph's passes can be printed for the graph
abbrev pub ShapedLoopsFit : Type 0
ShapedLoopsFit = (g : GraphView) (column : Pass → ColType) (s : PartView) → IsPart s → are_loops (map (pass_shapes column) (loops_of g.script)) s.loops ≡ true → FitGraph g s.loops
