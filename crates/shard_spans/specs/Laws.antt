-- Laws of spans. Each is the contract of a function of this crate, and so proved.
use Rattle.std.specs.Prelude.{◌≡◌, ◌≤◌, ◌<◌, ◌++◌, ℕ, List, All, None, length, map}
use Rattle.rdf_values.specs.{ColType, first_in, Lead, Pass, Script, Span, Value}
use Rattle.rdf_model.specs.{Dataset}
use Rattle.loop_pieces.specs.{cluster_fault}
use Rattle.shard_lines.specs.{booking_shape, joined_line, PassShape}
use Rattle.shard_files.specs.{first_uncovered, shards_joined, ShardView}
use Rattle.shard_spans.specs.Spans.{clusters_in, loops_of, pass_line, span_fault, span_loops, span_shard}

-- the first of a span's clusters with a fault has the first fault of the span
abbrev pub FirstFaultyClusterHasTheFault : Type 0
FirstFaultyClusterHasTheFault =
    (d : Dataset) (spans : List Span) (ps : List Pass) (lo hi : ℕ)
    → Lead 0 (length d.rows) spans → lo ≤ hi → hi ≤ length spans → first_in (map (cluster_fault d spans ps) (clusters_in lo hi)) ≡ span_fault spans d ps lo hi

-- the shapes of passes, where the kind of each one's first column is given
abbrev pub pass_shapes : (Pass → ColType) → List Pass → List PassShape
pass_shapes column ps = map (λ p. booking_shape (column p) p.result.booking) ps

-- the joined line of a pass over two lists of rows is that of the rows of both, the first ones first
abbrev pub JoinedLinesAreOfBoth : Type 0
JoinedLinesAreOfBoth =
    (d : Dataset) (xs ys : List (List Value)) (column : ColType) (p : Pass)
    → joined_line (booking_shape column p.result.booking) (pass_line (record d { rows = xs }) p) (pass_line (record d { rows = ys }) p) ≡ pass_line (record d { rows = xs ++ ys }) p

-- shards of spans of one cutting that hold each cluster once are joined, in whatever order they are named, to the loops of one
-- run over all clusters
abbrev pub ShardsJoinToOneRun : Type 0
ShardsJoinToOneRun =
    (script : Script) (d : Dataset) (spans parts : List Span) (column : Pass → ColType)
    → Lead 0 (length d.rows) spans → 0 < length parts → All (λ (s : Span). (s.lo ≤ s.hi) × (s.hi ≤ length spans)) parts
    → (let shards : List ShardView = map (λ (s : Span). span_shard script d spans s.lo s.hi) parts in
    first_uncovered (length spans) shards ≡ None → shards_joined (map (pass_shapes column) (loops_of script)) shards ≡ span_loops spans d 0 (length spans) (loops_of script))
