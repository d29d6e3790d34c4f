pub mod LoopSpans
-- what other crates name of these
pub use LoopSpans.{cuts_of, IsSpanned, IsSpanPiece, loop_fault, loop_in, span_rows_of, table_of}
