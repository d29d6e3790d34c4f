pub mod Laws
pub mod MergedPrints
pub mod Numbered
-- what other crates name of these
pub use Laws.{LinesPrintTheirPasses}
pub use MergedPrints.{access_printed, booking_text, cells_filled, FitGraph, line_filled, lines_of_result, loop_printed, merged_text, named_text, pass_text, prints_text, rows_of, with_labels}
pub use Numbered.{filter_counts, IsPassIn, label_of}
