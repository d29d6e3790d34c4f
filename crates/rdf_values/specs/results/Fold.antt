-- What an action makes of the items that were fed to it.
use Rattle.std.specs.Prelude.{ℕ, suc, ◌-◌, ◌^◌, ◌%◌, ◌&&◌, List, [], ◌∷◌, map, length, ℤ, pos, negsuc, ◌+ℤ◌, ◌*ℤ◌, int_le, bit_and, bit_or, bit_xor, Option, Some, None, if◌then◌else◌, fold, count_by, nat_eq, flat_map}
use Rattle.std.specs.Int.{w64, cast_signed, cast_unsigned, int_min, int_max, int_wrapping_add}
use Rattle.rdf_values.specs.clusters.Cuts.{below}
use Rattle.rdf_values.specs.declared.scripts.statement.ReduceOp.{ReduceOp}
use Rattle.rdf_values.specs.declared.scripts.statement.ActionKind.{ActionKind}
use Rattle.rdf_values.specs.declared.tables.value.Scalar.{Scalar}
use Rattle.rdf_values.specs.declared.results.Item.{Item}
use Rattle.rdf_values.specs.declared.results.Item.TheVariants.{Number, Single, Point, Point2}

-- a cell of a histogram: the sum of the weights and of their squares
pub record Cell : Type 0 where
  pub sum : ℤ
  pub squares : ℤ

-- what an action holds in the end
pub data Filled : Type 0 where
  Count : (n : ℕ) → Filled
  Sum : (z : ℤ) → Filled
  Extreme : (z : Option ℤ) → Filled
  Taken : (xs : List Scalar) → Filled
  Reduced : (z : ℤ) → Filled
  Flat : (cells : List Cell) → Filled
  Square : (cells : List (List Cell)) → Filled

-- the number of an item
abbrev pub number_of : Item → List ℤ
number_of (Number z) = z ∷ []
number_of i = []

-- the numbers among the items
abbrev pub numbers_of : List Item → List ℤ
numbers_of items = flat_map number_of items

-- the value of an item
abbrev pub scalar_of : Item → List Scalar
scalar_of (Single x) = x ∷ []
scalar_of i = []

-- ---- Sum, Min, Max

-- the sum of the numbers
abbrev pub integer_sum : List ℤ → ℤ
integer_sum zs = fold ◌+ℤ◌ (pos 0) zs

-- the least or greatest of the numbers, or none
abbrev pub extreme : (ℤ → ℤ → ℤ) → List ℤ → Option ℤ
extreme better [] = None
extreme better (z ∷ zs) = Some (fold better z zs)

-- ---- Reduce

-- an operation on the 64 bits of two numbers
abbrev pub on_bits : (ℕ → ℕ → ℕ) → ℤ → ℤ → ℤ
on_bits f x y = cast_signed w64 (f (cast_unsigned w64 x % 2 ^ 64) (cast_unsigned w64 y % 2 ^ 64))

-- the neutral start of an operation
abbrev pub reduce_start : ReduceOp → ℤ
reduce_start ReduceOp.Min = pos (2 ^ 63 - 1)
reduce_start ReduceOp.Max = negsuc (2 ^ 63 - 1)
reduce_start ReduceOp.And = negsuc 0
reduce_start ReduceOp.Or = pos 0
reduce_start ReduceOp.Xor = pos 0
reduce_start ReduceOp.WrapAdd = pos 0

-- the operation on two numbers
abbrev pub reduce_step : ReduceOp → ℤ → ℤ → ℤ
reduce_step ReduceOp.Min = int_min
reduce_step ReduceOp.Max = int_max
reduce_step ReduceOp.And = on_bits bit_and
reduce_step ReduceOp.Or = on_bits bit_or
reduce_step ReduceOp.Xor = on_bits bit_xor
reduce_step ReduceOp.WrapAdd = int_wrapping_add w64

-- ---- histograms

-- the cell of a number: how many edges are at most x
abbrev pub bin : List ℤ → ℤ → ℕ
bin edges x = count_by (λ e. int_le e x) edges

-- the numbers of an axis's cells: one more than there are edges
abbrev pub cells_on : List ℤ → List ℕ
cells_on edges = below (suc (length edges))

-- the weight of a point, where cell i is its own
abbrev pub weight_in : List ℤ → ℕ → Item → List ℤ
weight_in edges i (Point x w) = if nat_eq (bin edges x) i then w ∷ [] else []
weight_in edges i item = []

-- the weight of a point of the plane, where cell i, j is its own
abbrev pub weight_in2 : List ℤ → List ℤ → ℕ → ℕ → Item → List ℤ
weight_in2 xs ys i j (Point2 x y w) = if nat_eq (bin xs x) i && nat_eq (bin ys y) j then w ∷ [] else []
weight_in2 xs ys i j item = []

-- the cell that holds these weights
abbrev pub cell_of : List ℤ → Cell
cell_of ws = record { sum = integer_sum ws; squares = integer_sum (map (λ w. w *ℤ w) ws) }

-- the cell i of the items
abbrev pub flat_cell : List ℤ → List Item → ℕ → Cell
flat_cell edges items i = cell_of (flat_map (weight_in edges i) items)

-- the cell i, j of the items
abbrev pub square_cell : List ℤ → List ℤ → List Item → ℕ → ℕ → Cell
square_cell xs ys items i j = cell_of (flat_map (weight_in2 xs ys i j) items)

-- what the action makes of the items
abbrev pub fold_items : ActionKind → List Item → Filled
fold_items ActionKind.Count items = Count (length items)
fold_items (ActionKind.Sum c) items = Sum (integer_sum (numbers_of items))
fold_items (ActionKind.Min c) items = Extreme (extreme int_min (numbers_of items))
fold_items (ActionKind.Max c) items = Extreme (extreme int_max (numbers_of items))
fold_items (ActionKind.Take c) items = Taken (flat_map scalar_of items)
fold_items (ActionKind.Reduce o c) items = Reduced (fold (reduce_step o) (reduce_start o) (numbers_of items))
fold_items (ActionKind.Histo1D edges x w) items = Flat (map (flat_cell edges items) (cells_on edges))
fold_items (ActionKind.Histo2D xs ys x y w) items = Square (map (λ i. map (square_cell xs ys items i) (cells_on ys)) (cells_on xs))
