-- A law of shapes. It is the contract of a function of this crate, and so proved.
use Rattle.std.specs.Prelude.{◌≡◌, List, Ok}
use Rattle.graph_numbers.specs.{GraphView}
use Rattle.merged_text.specs.{FitGraph}
use Rattle.shard_files.specs.{merge_of, ShardLoop, ShardView}
use Rattle.graph_shapes.specs.GraphShapes.{graph_shapes}

-- shards that are merged by a graph's shapes are printed for the graph
abbrev pub JoinedLoopsFit : Type 0
JoinedLoopsFit = (g : GraphView) (shards : List ShardView) (loops : List ShardLoop) → merge_of (graph_shapes g) shards ≡ Ok loops → FitGraph g loops
