-- What the entries of a block feed to an action.
use Rattle.std.specs.Prelude.{ℕ, zero, ◌+◌, ◌<◌, ◌≤◌, ⊤, Bool, true, false, List, [], ◌∷◌, length, ℤ, pos, Option, Some, None, All, slice_index_or, slice_range, flat_map}
use Rattle.std.specs.List.{range_with_len}
use Rattle.rdf_values.specs.{ActionKind, EntryFault, feed_fault, Item, numbers, Span, spread, Value}
use Rattle.actions.specs.declared.batch.Batch.{Batch}
use Rattle.actions.specs.declared.batch.BatchFault.{BatchFault}
use Rattle.actions.specs.declared.batch.Sources.{Sources}
use Rattle.actions.specs.declared.batch.Sources.TheVariants.{Entry, One, Weighted, Pair, WeightedPair}
use Rattle.actions.specs.declared.lane.FedLane.{FedLane}
use Rattle.actions.specs.declared.places.Places.{Places}
use Rattle.actions.specs.declared.places.Places.TheVariants.{First, Listed}
use Rattle.actions.specs.Parts.{AreAlike, IsInteger, IsNumeric, IsSingle, WeightSuits, first_numbers}

-- the places, in their order
abbrev pub places_of : Places → List ℕ
places_of (First n) = range_with_len 0 n
places_of (Listed ps) = ps.now

-- a fact of each of them
abbrev pub EachPlace : Places → (ℕ → Type 0) → Type 0
EachPlace ps P = All P (places_of ps)

-- ---- values

-- a mark counts as true unless it is 0
abbrev pub truth_of : ℤ → Bool
truth_of (pos zero) = false
truth_of z = true

-- where the elements of a place stand
abbrev pub span_at : List Span → ℕ → Span
span_at spans p = slice_index_or spans p (record { lo = 0; hi = 0 })

-- the value of a place
abbrev pub lane_value : FedLane → ℕ → Value
lane_value (FedLane.Int zs) p = Value.Int (slice_index_or zs.now p (pos 0))
lane_value (FedLane.Bool zs) p = Value.Bool (truth_of (slice_index_or zs.now p (pos 0)))
lane_value (FedLane.Vects elements spans) p = Value.Vect (slice_range elements.now (span_at spans.now p).lo (span_at spans.now p).hi)
lane_value (FedLane.Column vectors first) p = Value.Vect (slice_index_or vectors.now (first + p) [])

-- there is one at the place
abbrev pub HasPlace : FedLane → ℕ → Type 0
HasPlace (FedLane.Int zs) p = p < length zs.now
HasPlace (FedLane.Bool zs) p = p < length zs.now
HasPlace (FedLane.Vects elements spans) p =
    (p < length spans.now) × ((span_at spans.now p).lo ≤ (span_at spans.now p).hi) × ((span_at spans.now p).hi ≤ length elements.now)
HasPlace (FedLane.Column vectors first) p = first + p < length vectors.now

-- the values of the columns at a place, in written order
abbrev pub values_at : Sources → ℕ → List Value
values_at Entry p = []
values_at (One x) p = lane_value x p ∷ []
values_at (Weighted x w) p = lane_value x p ∷ lane_value w p ∷ []
values_at (Pair x y) p = lane_value x p ∷ lane_value y p ∷ []
values_at (WeightedPair x y w) p = lane_value x p ∷ lane_value y p ∷ lane_value w p ∷ []

-- the lane of the first column
abbrev pub first_lane : Sources → Option FedLane
first_lane Entry = None
first_lane (One x) = Some x
first_lane (Weighted x w) = Some x
first_lane (Pair x y) = Some x
first_lane (WeightedPair x y w) = Some x

-- there is a value in each lane
abbrev pub HasValues : Sources → ℕ → Type 0
HasValues Entry p = ⊤
HasValues (One x) p = HasPlace x p
HasValues (Weighted x w) p = HasPlace x p × HasPlace w p
HasValues (Pair x y) p = HasPlace x p × HasPlace y p
HasValues (WeightedPair x y w) p = HasPlace x p × HasPlace y p × HasPlace w p

-- ---- what is fed

-- the numbers of a lane at these places, one place after another
abbrev pub numbers_in : FedLane → List ℕ → List ℤ
numbers_in x ps = flat_map (λ p. numbers (lane_value x p)) ps

-- the numbers of the first column there
abbrev pub first_numbers_in : Batch → List ℤ
first_numbers_in b = flat_map (λ p. first_numbers (values_at b.sources p)) (places_of b.places)

-- the items of each place, one place after another
abbrev pub batch_items : ActionKind → Batch → List Item
batch_items k b = flat_map (λ p. spread k (values_at b.sources p)) (places_of b.places)

-- the first of the places whose values can't be fed, and why
abbrev pub fault_or_later : ℕ → Option EntryFault → Option BatchFault → Option BatchFault
fault_or_later p (Some kind) later = Some (record { place = p; kind = kind })
fault_or_later p None later = later

abbrev pub first_fault_in : ActionKind → Sources → List ℕ → Option BatchFault
first_fault_in k s [] = None
first_fault_in k s (p ∷ ps) = fault_or_later p (feed_fault k (values_at s p)) (first_fault_in k s ps)

-- the values of a place suit the action
abbrev pub SuitsAt : ActionKind → Sources → ℕ → Type 0
SuitsAt ActionKind.Count Entry p = ⊤
SuitsAt (ActionKind.Sum c) (One x) p = IsNumeric (lane_value x p)
SuitsAt (ActionKind.Min c) (One x) p = IsNumeric (lane_value x p)
SuitsAt (ActionKind.Max c) (One x) p = IsNumeric (lane_value x p)
SuitsAt (ActionKind.Take c) (One x) p = IsSingle (lane_value x p)
SuitsAt (ActionKind.Reduce o c) (One x) p = IsInteger (lane_value x p)
SuitsAt (ActionKind.Histo1D edges c o) (One x) p = IsNumeric (lane_value x p)
SuitsAt (ActionKind.Histo1D edges c o) (Weighted x w) p = IsNumeric (lane_value x p) × WeightSuits (lane_value x p) (lane_value w p)
SuitsAt (ActionKind.Histo2D xs ys c d o) (Pair x y) p = IsNumeric (lane_value x p) × IsNumeric (lane_value y p) × AreAlike (lane_value x p) (lane_value y p)
SuitsAt (ActionKind.Histo2D xs ys c d o) (WeightedPair x y w) p =
    IsNumeric (lane_value x p) × IsNumeric (lane_value y p) × AreAlike (lane_value x p) (lane_value y p) × WeightSuits (lane_value x p) (lane_value w p)
SuitsAt k s p = ⊥
