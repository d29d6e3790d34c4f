-- What an entry feeds to an action, as values.
use Rattle.std.specs.Prelude.{ℕ, ◌≤◌, ◌<◌, ⊤, List, [], ◌∷◌, length, ℤ, Option, Some, None, map, if◌then◌else◌, nat_le}
use Rattle.rdf_values.specs.{ActionKind, numbers, Scalar, scalar_value, Value, Item}
use Rattle.actions.specs.declared.items.ColumnValue.{ColumnValue}
use Rattle.actions.specs.declared.items.Items.{Items}
use Rattle.actions.specs.declared.items.Items.TheVariants.{Entry, One, Weighted, Pair, WeightedPair}

abbrev pub part_value : ColumnValue → Value
part_value (ColumnValue.Int z) = Value.Int z
part_value (ColumnValue.Bool b) = Value.Bool b
part_value (ColumnValue.Vect zs) = Value.Vect zs.now

-- the values of the columns, in written order
abbrev pub values_of : Items → List Value
values_of Entry = []
values_of (One x) = part_value x ∷ []
values_of (Weighted x w) = part_value x ∷ part_value w ∷ []
values_of (Pair x y) = part_value x ∷ part_value y ∷ []
values_of (WeightedPair x y w) = part_value x ∷ part_value y ∷ part_value w ∷ []

-- a value that may be missing
abbrev pub part_values : Option ColumnValue → List Value
part_values None = []
part_values (Some p) = part_value p ∷ []

-- the numbers of the first value
abbrev pub first_numbers : List Value → List ℤ
first_numbers [] = []
first_numbers (v ∷ vs) = numbers v

-- the numbers of the second coordinate
abbrev pub second_part : Items → List ℤ
second_part Entry = []
second_part (One x) = []
second_part (Weighted x w) = []
second_part (Pair x y) = numbers (part_value y)
second_part (WeightedPair x y w) = numbers (part_value y)

-- the first value, if it is no vector
abbrev pub first_scalar : List Value → List Scalar
first_scalar [] = []
first_scalar (v ∷ vs) = scalar_value v

-- the weight, where one is given
abbrev pub weight_part : Items → Option ColumnValue
weight_part Entry = None
weight_part (One x) = None
weight_part (Weighted x w) = Some w
weight_part (Pair x y) = None
weight_part (WeightedPair x y w) = Some w

-- there is a weight for the point of this place
abbrev pub HasWeight : ℕ → Option ColumnValue → Type 0
HasWeight i None = ⊤
HasWeight i (Some (ColumnValue.Int w)) = ⊤
HasWeight i (Some (ColumnValue.Bool b)) = ⊥
HasWeight i (Some (ColumnValue.Vect ws)) = i < length ws.now

-- ---- the values that a kind takes

-- a number, or a vector of at most 4,096 elements
abbrev pub IsNumeric : Value → Type 0
IsNumeric (Value.Int z) = ⊤
IsNumeric (Value.Bool b) = ⊥
IsNumeric (Value.Vect zs) = length zs ≤ 4096

-- a number or a truth value
abbrev pub IsSingle : Value → Type 0
IsSingle (Value.Int z) = ⊤
IsSingle (Value.Bool b) = ⊤
IsSingle (Value.Vect zs) = ⊥

abbrev pub IsInteger : Value → Type 0
IsInteger (Value.Int z) = ⊤
IsInteger (Value.Bool b) = ⊥
IsInteger (Value.Vect zs) = ⊥

-- two numbers, or two vectors
abbrev pub AreAlike : Value → Value → Type 0
AreAlike (Value.Int y) (Value.Int z) = ⊤
AreAlike (Value.Vect ys) (Value.Vect zs) = ⊤
AreAlike v u = ⊥

-- a number, or a vector beside a vector
abbrev pub WeightSuits : Value → Value → Type 0
WeightSuits v (Value.Int w) = ⊤
WeightSuits (Value.Vect zs) (Value.Vect ws) = length ws ≤ 4096
WeightSuits v w = ⊥

-- what an entry feeds to an action of the kind
abbrev pub Suits : ActionKind → Items → Type 0
Suits ActionKind.Count Entry = ⊤
Suits (ActionKind.Sum c) (One x) = IsNumeric (part_value x)
Suits (ActionKind.Min c) (One x) = IsNumeric (part_value x)
Suits (ActionKind.Max c) (One x) = IsNumeric (part_value x)
Suits (ActionKind.Take c) (One x) = IsSingle (part_value x)
Suits (ActionKind.Reduce o c) (One x) = IsInteger (part_value x)
Suits (ActionKind.Histo1D edges c o) (One x) = IsNumeric (part_value x)
Suits (ActionKind.Histo1D edges c o) (Weighted x w) = IsNumeric (part_value x) × WeightSuits (part_value x) (part_value w)
Suits (ActionKind.Histo2D xs ys c d o) (Pair x y) = IsNumeric (part_value x) × IsNumeric (part_value y) × AreAlike (part_value x) (part_value y)
Suits (ActionKind.Histo2D xs ys c d o) (WeightedPair x y w) =
    IsNumeric (part_value x) × IsNumeric (part_value y) × AreAlike (part_value x) (part_value y) × WeightSuits (part_value x) (part_value w)
Suits k items = ⊥

-- ---- items, each with the cluster that fed it, and their order in the file

-- an item, and the number of the cluster whose entry fed it
pub record Fed : Type 0 where
  pub cluster : ℕ
  pub item : Item

abbrev pub from_cluster : ℕ → List Item → List Fed
from_cluster cluster items = map (λ i. record { cluster = cluster; item = i }) items

-- put before the first one of its own or of a higher cluster
abbrev pub put : Fed → List Fed → List Fed
put f [] = f ∷ []
put f (g ∷ gs) = if nat_le f.cluster g.cluster then f ∷ g ∷ gs else g ∷ put f gs

-- those of lower clusters first, and those of one cluster as they were fed
abbrev pub by_cluster : List Fed → List Fed
by_cluster [] = []
by_cluster (f ∷ fs) = put f (by_cluster fs)

-- the items in the order of the file
abbrev pub in_file_order : List Fed → List Item
in_file_order fed = map (λ f. f.item) (by_cluster fed)
