pub mod Axis
pub mod Cells
pub mod OneAxis
pub mod TwoAxes
-- what other crates name of these
pub use Axis.{IsAxis, AreStarts, bucket_of, bucket_of_edge, KeepsBuckets, KeepsEdges}
pub use Cells.{cell_seen, FitTogether, IsBounded, IsWeight, together, with_weight}
pub use OneAxis.{Flat, flat_cells, HasFilled}
pub use TwoAxes.{HasFilled2, rows_on, square_cells}
pub use declared.cell_sum.CellSum.{CellSum}
