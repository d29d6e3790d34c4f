-- The cells of a histogram, as they are kept.
use Rattle.std.specs.Prelude.{ℕ, ◌*◌, ◌≤◌, ℤ, ◌+ℤ◌, ◌*ℤ◌, nat_abs, FitsSigned}
use Rattle.std.specs.Int.{w128}
use Rattle.rdf_values.specs.results.Fold.{Cell}
use Rattle.histograms.specs.declared.cell_sum.CellSum.{CellSum}

-- a weight that a histogram takes
abbrev pub IsWeight : ℤ → Type 0
IsWeight weight = nat_abs weight ≤ 2147483647

-- a cell as the definitions see it
abbrev pub cell_seen : CellSum → Cell
cell_seen cell = record { sum = cell.sum; squares = cell.squares }

-- the cell with one more weight
abbrev pub with_weight : CellSum → ℤ → CellSum
with_weight cell weight = record { sum = cell.sum +ℤ weight; squares = cell.squares +ℤ weight *ℤ weight }

-- the cell with all weights of another
abbrev pub together : CellSum → CellSum → CellSum
together cell more = record { sum = cell.sum +ℤ more.sum; squares = cell.squares +ℤ more.squares }

-- the sums of both together have 128 bits
pub record FitTogether (cell more : CellSum) : Type 0 where
  pub sum : FitsSigned w128 (cell.sum +ℤ more.sum)
  pub squares : FitsSigned w128 (cell.squares +ℤ more.squares)

-- so many weights have no larger sums
pub record IsBounded (fills : ℕ) (cell : CellSum) : Type 0 where
  pub sum : nat_abs cell.sum ≤ fills * 2147483647
  pub squares : nat_abs cell.squares ≤ fills * 4611686014132420609
