-- Tables of the same columns, one behind the other.
use Rattle.std.specs.Prelude.{List, [], ◌∷◌, ◌++◌, flat_map, ◌≡◌, ⊤, map}
use Rattle.rdf_values.specs.{Cells, TableView, Column, cut, HoldsTable, Span}
use Rattle.columns.specs.declared.column_pieces.ColumnPieces.{ColumnPieces}
use Rattle.std.specs.List.{AllByRecursion}
use Rattle.columns.specs.Views.{CutsView}
use Rattle.columns.specs.Packings.{cluster_values}
use Rattle.columns.specs.declared.kept.PackedColumn.{PackedColumn}

-- the values of a column, with more of its type behind them
abbrev pub cells_joined : Cells → Cells → Cells
cells_joined (Cells.Ints ns) (Cells.Ints more) = Cells.Ints (ns ++ more)
cells_joined (Cells.Ints ns) (Cells.Vects more) = Cells.Ints ns
cells_joined (Cells.Vects vs) (Cells.Ints more) = Cells.Vects vs
cells_joined (Cells.Vects vs) (Cells.Vects more) = Cells.Vects (vs ++ more)

-- the same of each column
abbrev pub columns_joined : List Cells → List Cells → List Cells
columns_joined [] more = []
columns_joined (x ∷ xs) [] = x ∷ xs
columns_joined (x ∷ xs) (y ∷ more) = cells_joined x y ∷ columns_joined xs more

-- the rows of the second behind those of the first
abbrev pub table_joined : TableView → TableView → TableView
table_joined a b = record a { rows = a.rows ++ b.rows }

-- ---- what the pieces of a column hold together

-- the values of all pieces, one after the other
abbrev pub joined : {A : Type 0} → List (List A) → List A
joined lists = flat_map (λ l. l) lists

abbrev pub whole : ColumnPieces → Cells
whole (ColumnPieces.Ints numbers) = Cells.Ints (joined numbers.items)
whole (ColumnPieces.Vects vectors) = Cells.Vects (joined vectors.items)

-- ---- how columns are kept over clusters

-- the values for which a column stands
abbrev pub cells_of : PackedColumn → Cells
cells_of (PackedColumn.Ints values) = Cells.Ints (joined values)
cells_of (PackedColumn.Vects vectors) = Cells.Vects vectors

-- numbers are kept cluster by cluster
abbrev pub IsByCluster : List Span → PackedColumn → Type 0
IsByCluster spans (PackedColumn.Ints values) = values ≡ cluster_values spans (joined values)
IsByCluster spans (PackedColumn.Vects vectors) = ⊤

-- what is kept is a table over the ranges of the cuts
pub record HoldColumns (columns : List Column) (all : List PackedColumn) (cuts : CutsView) : Type 0 where
  pub table : HoldsTable columns (map cells_of all) cuts.entries
  pub clusters : AllByRecursion (IsByCluster (cut cuts.entries cuts.size cuts.marks)) all
