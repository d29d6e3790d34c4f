-- Histograms of two axes.
use Rattle.std.specs.Prelude.{ℕ, ◌≡◌, ◌≤◌, ◌+◌, ◌*◌, ◌^◌, ℤ, List, length, map, take, drop, All}
use Rattle.rdf_values.specs.{cells_on, Item, square_cell}
use Rattle.rdf_values.specs.results.Fold.{Cell}
use Rattle.histograms.specs.declared.cell_sum.CellSum.{CellSum}
use Rattle.histograms.specs.Axis.{IsAxis}
use Rattle.histograms.specs.Cells.{IsBounded}

-- what a contract sees: the edges of both axes, how many fills were made, and for each x cell its y cells
pub record Square : Type 0 where
  pub x_edges : List ℤ
  pub y_edges : List ℤ
  pub fills : ℕ
  pub cells : List (List Cell)

-- the cells of points
abbrev pub square_cells : List ℤ → List ℤ → List Item → List (List Cell)
square_cells xs ys points = map (λ i. map (square_cell xs ys points i) (cells_on ys)) (cells_on xs)

-- these points were filled, and no others
pub record HasFilled2 (hist : Square) (points : List Item) : Type 0 where
  pub cells : hist.cells ≡ square_cells hist.x_edges hist.y_edges points

-- ---- how it is kept

-- the rows of the cells of two axes: for each x cell its y cells, kept in one list
abbrev pub rows_on : {A : Type 0} → List ℤ → List ℤ → List A → List (List A)
rows_on xs ys cells = map (λ i. take (length ys + 1) (drop (i * (length ys + 1)) cells)) (cells_on xs)

-- one cell for each place, row by row, and sums that so many fills can give
pub record KeepsSquare (xs ys : List ℤ) (fills : ℕ) (cells : List CellSum) : Type 0 where
  pub x_axis : IsAxis xs
  pub y_axis : IsAxis ys
  pub size : length cells ≡ (length xs + 1) * (length ys + 1)
  pub few : fills ≤ 2 ^ 40
  pub bounded : All (IsBounded fills) cells
