-- What the values of one entry feed to an action.
use Rattle.std.specs.Prelude.{ℕ, ◌^◌, Bool, true, false, List, [], ◌∷◌, length, map, replicate, ℤ, pos, nat_abs, Option, Some, None, if◌then◌else◌, nat_eq, nat_lt}
use Rattle.std.specs.List.{list_all}
use Rattle.rdf_values.specs.declared.results.Item.{Item}
use Rattle.rdf_values.specs.declared.scripts.statement.ActionKind.{ActionKind}
use Rattle.rdf_values.specs.declared.tables.value.Value.{Value}
use Rattle.rdf_values.specs.declared.tables.value.Scalar.{Scalar}
use Rattle.rdf_values.specs.declared.results.EntryFault.{EntryFault}
use Rattle.rdf_values.specs.declared.results.EntryFault.TheVariants.{Lengths, Weight}

-- the numbers of a value
abbrev pub numbers : Value → List ℤ
numbers (Value.Int z) = z ∷ []
numbers (Value.Bool b) = []
numbers (Value.Vect zs) = zs

-- the value of a Take: a number or a truth value
abbrev pub scalar_value : Value → List Scalar
scalar_value (Value.Int z) = Scalar.Int z ∷ []
scalar_value (Value.Bool b) = Scalar.Bool b ∷ []
scalar_value (Value.Vect zs) = []

-- the weights of n items: 1, or the number for each, or the vector's
abbrev pub weights : ℕ → List Value → List ℤ
weights n [] = replicate n (pos 1)
weights n (Value.Int w ∷ vs) = replicate n w
weights n (Value.Bool b ∷ vs) = []
weights n (Value.Vect ws ∷ vs) = ws

-- each number with its weight
abbrev pub points : List ℤ → List ℤ → List Item
points [] ws = []
points (x ∷ xs) [] = []
points (x ∷ xs) (w ∷ ws) = Item.Point x w ∷ points xs ws

-- each pair of numbers with its weight
abbrev pub points2 : List ℤ → List ℤ → List ℤ → List Item
points2 [] ys ws = []
points2 (x ∷ xs) [] ws = []
points2 (x ∷ xs) (y ∷ ys) [] = []
points2 (x ∷ xs) (y ∷ ys) (w ∷ ws) = Item.Point2 x y w ∷ points2 xs ys ws

-- the items of one entry, by the values of the columns
abbrev pub spread : ActionKind → List Value → List Item
spread ActionKind.Count vs = Item.Unit ∷ []
spread (ActionKind.Take c) (v ∷ vs) = map Item.Single (scalar_value v)
spread (ActionKind.Histo1D edges x w) (v ∷ ws) = points (numbers v) (weights (length (numbers v)) ws)
spread (ActionKind.Histo2D xs ys x y w) (v ∷ u ∷ ws) = points2 (numbers v) (numbers u) (weights (length (numbers v)) ws)
spread k [] = []
spread k (v ∷ vs) = map Item.Number (numbers v)

-- two values differ in length nowhere: one is no vector, or both have as many elements
abbrev pub as_long_as : Value → Value → Bool
as_long_as (Value.Vect xs) (Value.Vect ys) = nat_eq (length xs) (length ys)
as_long_as v w = true

-- the vectors among the values are as long as the first
abbrev pub have_one_length : List Value → Bool
have_one_length [] = true
have_one_length (v ∷ vs) = list_all (as_long_as v) vs

-- the values that are weights
abbrev pub weight_values : ActionKind → List Value → List Value
weight_values (ActionKind.Histo1D edges x w) (v ∷ ws) = ws
weight_values (ActionKind.Histo2D xs ys x y w) (v ∷ u ∷ ws) = ws
weight_values k vs = []

-- the weights of a value are at most 2147483647, whatever their sign
abbrev pub is_weight : Value → Bool
is_weight v = list_all (λ w. nat_lt (nat_abs w) (2 ^ 31)) (numbers v)

-- why the weights can't be fed, where they aren't in their range
abbrev pub weight_fault : Bool → Option EntryFault
weight_fault true = None
weight_fault false = Some Weight

-- why the values of an action's columns can't be fed: vectors of different lengths, and then a weight out of range
abbrev pub feed_fault : ActionKind → List Value → Option EntryFault
feed_fault k vs =
    if have_one_length vs then weight_fault (list_all is_weight (weight_values k vs)) else Some Lengths
