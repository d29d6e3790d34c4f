pub mod Csv
pub mod Pieces
-- what other crates name of these
pub use Csv.{entries_of, IsHeaded, Leaves, Took, AreCellsPushed, IsCellPushed, IsRowPushed, kind_of}
unfoldable pub use Csv.{csv_records}
pub use Pieces.{columns_over, marked_in, marked_joined, marks_behind, EndsLine, is_line_end, is_quote, is_special, IsCut, IsHead, IsPiece}
pub use declared.pieces.MarkedPieces.{MarkedPieces}
