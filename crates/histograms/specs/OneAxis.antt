-- Histograms of one axis.
use Rattle.std.specs.Prelude.{ℕ, ◌≡◌, ◌≤◌, ◌+◌, ◌^◌, ℤ, List, length, map, All}
use Rattle.rdf_values.specs.{cells_on, flat_cell, Item}
use Rattle.rdf_values.specs.results.Fold.{Cell}
use Rattle.histograms.specs.declared.cell_sum.CellSum.{CellSum}
use Rattle.histograms.specs.Axis.{IsAxis}
use Rattle.histograms.specs.Cells.{IsBounded}

-- what a contract sees: the edges, how many fills were made, and the cells in order
pub record Flat : Type 0 where
  pub edges : List ℤ
  pub fills : ℕ
  pub cells : List Cell

-- the cells of points
abbrev pub flat_cells : List ℤ → List Item → List Cell
flat_cells edges points = map (flat_cell edges points) (cells_on edges)

-- these points were filled, and no others
pub record HasFilled (hist : Flat) (points : List Item) : Type 0 where
  pub cells : hist.cells ≡ flat_cells hist.edges points

-- one cell for each place, and sums that so many fills can give
pub record KeepsFlat (edges : List ℤ) (fills : ℕ) (cells : List CellSum) : Type 0 where
  pub axis : IsAxis edges
  pub size : length cells ≡ length edges + 1
  pub few : fills ≤ 2 ^ 40
  pub bounded : All (IsBounded fills) cells
