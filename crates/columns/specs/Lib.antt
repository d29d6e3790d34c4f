pub mod Packings
pub mod Views
pub mod Joins
-- what other crates name of these
pub use Packings.{AreBlocks, AreNumbers, block_values, cluster_values, IsBlock, greatest_from, IsTight, least_from, low_bytes, number_in, packed_by, packed_of, packing_of, values_in, width_of, IsWidth}
pub use Views.{ranges_to, Holds, IsInOne, IsAhead, IsPassed}
pub use Joins.{cells_joined, columns_joined, table_joined, cells_of, IsByCluster, joined, whole}
pub use declared.column_pieces.ColumnPieces.{ColumnPieces}
pub use declared.table_pieces.PiecesParts.{PiecesParts}
