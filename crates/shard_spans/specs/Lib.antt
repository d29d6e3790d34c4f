pub mod Laws
pub mod Spans
-- what other crates name of these
pub use Laws.{FirstFaultyClusterHasTheFault, JoinedLinesAreOfBoth, pass_shapes, ShardsJoinToOneRun}
pub use Spans.{booking_line, cell_sum, clusters_from, clusters_in, filled_line, loops_of, over_span, pass_line, span_fault, span_loop, span_loops, span_shard}
