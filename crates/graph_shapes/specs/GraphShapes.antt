-- The shapes of a graph's passes, loop by loop.
use Rattle.std.specs.Prelude.{ℕ, List, [], ◌∷◌, map, slice_get, unwrap_or}
use Rattle.rdf_values.specs.{ActionAt, Booking, ColType, columns_of, Pass, ReportOn, scope_of, visible_columns}
use Rattle.graph_numbers.specs.{graph_kinds, GraphView, ResultAt}
use Rattle.shard_lines.specs.{PassShape}
use Rattle.shard_spans.specs.{loops_of, pass_shapes}
use Rattle.shard_runs.specs.{first_kind}

-- the kind of the first column that was booked, by the columns that are visible there
abbrev pub booking_kind : GraphView → Booking → ColType
booking_kind g (ActionAt action at) = first_kind (visible_columns g.names (scope_of g.header) at) (columns_of action)
booking_kind g (ReportOn filters) = ColType.Int

abbrev pub pass_kind : GraphView → Pass → ColType
pass_kind g p = booking_kind g p.result.booking

-- the shapes of each loop's passes, a Take by the kind of its column
abbrev pub graph_shapes : GraphView → List (List PassShape)
graph_shapes g = map (pass_shapes (pass_kind g)) (loops_of g.script)

-- the kind of the first version among these, and that of a number where there is none
abbrev pub version_kind : GraphView → List ℕ → ColType
version_kind g [] = ColType.Int
version_kind g (v ∷ vs) = unwrap_or (slice_get (graph_kinds g) v) ColType.Int

-- the same of a result's inputs
abbrev pub input_kind : GraphView → ResultAt → ColType
input_kind g x = version_kind g x.inputs
