-- The lines of a pass over the entries of two runs, the earlier first.
use Rattle.std.specs.Prelude.{ℕ, ℤ, ◌+◌, ◌+ℤ◌, pos, List, [], ◌∷◌, ◌++◌, Option, Some, None}
use Rattle.std.specs.Int.{int_min, int_max}
use Rattle.rdf_values.specs.{reduce_step, Scalar}
use Rattle.loop_pieces.specs.{Counts}
use Rattle.histograms.specs.{CellSum}
use Rattle.shard_lines.specs.declared.pass_shape.PassShape.{PassShape}
use Rattle.shard_lines.specs.declared.shard_line.ShardLine.{ShardLine}

-- ---- what a line holds, and nothing where it is of another kind

abbrev pub count_of : ShardLine → ℕ
count_of (ShardLine.Count n) = n
count_of p = 0

abbrev pub sum_of : ShardLine → ℤ
sum_of (ShardLine.Sum z) = z
sum_of p = pos 0

abbrev pub number_of : ShardLine → ℤ
number_of (ShardLine.Number z) = z
number_of p = pos 0

abbrev pub extreme_of : ShardLine → Option ℤ
extreme_of (ShardLine.Extreme z) = z
extreme_of p = None

abbrev pub taken_of : ShardLine → List Scalar
taken_of (ShardLine.Take xs) = xs
taken_of p = []

abbrev pub cells_of : ShardLine → List CellSum
cells_of (ShardLine.Cells cs) = cs
cells_of p = []

abbrev pub counts_of : ShardLine → List Counts
counts_of (ShardLine.Report cs) = cs
counts_of p = []

-- the better of two, where both are there
abbrev pub better_of : (ℤ → ℤ → ℤ) → Option ℤ → Option ℤ → Option ℤ
better_of better None z = z
better_of better (Some y) None = Some y
better_of better (Some y) (Some z) = Some (better y z)

abbrev pub added_cells : List CellSum → List CellSum → List CellSum
added_cells [] ds = []
added_cells (c ∷ cs) [] = []
added_cells (c ∷ cs) (d ∷ ds) = record { sum = c.sum +ℤ d.sum; squares = c.squares +ℤ d.squares } ∷ added_cells cs ds

abbrev pub added_counts : List Counts → List Counts → List Counts
added_counts [] ds = []
added_counts (c ∷ cs) [] = []
added_counts (c ∷ cs) (d ∷ ds) = record { all = c.all + d.all; pass = c.pass + d.pass } ∷ added_counts cs ds

-- the line of one pass over both
abbrev pub joined_line : PassShape → ShardLine → ShardLine → ShardLine
joined_line PassShape.Count p q = ShardLine.Count (count_of p + count_of q)
joined_line PassShape.Sum p q = ShardLine.Sum (sum_of p +ℤ sum_of q)
joined_line PassShape.Least p q = ShardLine.Extreme (better_of int_min (extreme_of p) (extreme_of q))
joined_line PassShape.Greatest p q = ShardLine.Extreme (better_of int_max (extreme_of p) (extreme_of q))
joined_line (PassShape.Take column) p q = ShardLine.Take (taken_of p ++ taken_of q)
joined_line (PassShape.Number o) p q = ShardLine.Number (reduce_step o (number_of p) (number_of q))
joined_line (PassShape.Cells n) p q = ShardLine.Cells (added_cells (cells_of p) (cells_of q))
joined_line (PassShape.Report n) p q = ShardLine.Report (added_counts (counts_of p) (counts_of q))

-- the lines of a loop that is whole over both
abbrev pub joined_lines : List PassShape → List ShardLine → List ShardLine → List ShardLine
joined_lines [] ps qs = []
joined_lines (s ∷ ss) [] qs = []
joined_lines (s ∷ ss) (p ∷ ps) [] = []
joined_lines (s ∷ ss) (p ∷ ps) (q ∷ qs) = joined_line s p q ∷ joined_lines ss ps qs
