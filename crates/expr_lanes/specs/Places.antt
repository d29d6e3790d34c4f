-- What comes of the places of a selection.
use Rattle.std.specs.Prelude.{◌≡◌, ◌+◌, ◌++◌, ◌<◌, ◌≤◌, ℕ, ℤ, pos, Bool, true, false, List, [], ◌∷◌, IsPermutation, Result, Ok, Err, nat_eq, length, slice_index_or}
use Rattle.std.specs.List.{filter, list_any}
use Rattle.rdf_model.specs.{Faults, Gives, Needs, Outcome}
use Rattle.expr_eval.specs.{ScalarStop}
use Rattle.expr_eval.specs.declared.stop.ScalarStop.TheVariants.{Fault, Need}
use Rattle.expr_lanes.specs.declared.TheConstants.{MAX_PLACES}
use Rattle.expr_lanes.specs.declared.parting.Stopped.{Stopped}

-- the place is one of the selection's
abbrev pub is_in : ℕ → List ℕ → Bool
is_in p sel = list_any (nat_eq p) sel

-- a fact of each place of the selection
abbrev pub EachPlace : List ℕ → (ℕ → Type 0) → Type 0
EachPlace sel P = (p : ℕ) → is_in p sel ≡ true → P p

-- each place of the selection is below those behind it
abbrev pub AreRising : List ℕ → Type 0
AreRising [] = Unit {0}
AreRising (p ∷ sel) = EachPlace sel (λ q. p < q) × AreRising sel

-- what a lane holds at a place
abbrev pub at_place : List ℤ → ℕ → ℤ
at_place lane p = slice_index_or lane p (pos 0)

-- a place is marked
abbrev pub is_marked : List Bool → ℕ → Bool
is_marked marks p = slice_index_or marks p false

-- an outcome gives a value
abbrev pub is_given : {A : Type 0} → Outcome ℕ A → Bool
is_given (Gives a) = true
is_given o = false

-- what is answered of a place
abbrev pub answered_at : Result ℤ ScalarStop → Outcome ℕ ℤ
answered_at (Ok z) = Gives z
answered_at (Err (Fault kind)) = Faults kind
answered_at (Err (Need c)) = Needs c

abbrev pub stopped : ℕ → ScalarStop → Stopped
stopped p s = record { place = p; stop = s }

-- the list with the place before it, where the outcome stops
abbrev pub with_stop : {A : Type 0} → ℕ → Outcome ℕ A → List Stopped → List Stopped
with_stop p (Gives a) rest = rest
with_stop p (Faults kind) rest = stopped p (Fault kind) ∷ rest
with_stop p (Needs c) rest = stopped p (Need c) ∷ rest

-- with an outcome for each place
module _ {A : Type 0} (f : ℕ → Outcome ℕ A) where
  -- the places of the selection that come to a value
  abbrev pub given_in : List ℕ → List ℕ
  given_in sel = filter (λ p. is_given (f p)) sel

  -- those that don't, each with its fault or the column that it lacks
  abbrev pub stops_in : List ℕ → List Stopped
  stops_in [] = []
  stops_in (p ∷ sel) = with_stop p (f p) (stops_in sel)

-- the places of a selection came to their outcomes: left are those that came to a value, in order, which the numbers are at each of
-- them; the others are stops beside those that there were, in any order
pub record HasCome {A : Type 0} (f : ℕ → Outcome ℕ A) (sel left : List ℕ) (number : ℕ → A) (stops more : List Stopped) : Type 0 where
  pub left_in : left ≡ given_in f sel
  pub values : EachPlace left (λ p. f p ≡ Gives (number p))
  pub joined : IsPermutation (stops ++ stops_in f sel) more

-- the same where a lane holds the numbers, which is as it was at each place that wasn't selected
pub record Evaluated (f : ℕ → Outcome ℕ ℤ) (sel left : List ℕ) (before after : List ℤ) (stops more : List Stopped) : Type 0 where
  pub come : HasCome f sel left (at_place after) stops more
  pub others : (p : ℕ) → is_in p sel ≡ false → at_place after p ≡ at_place before p

-- the selected places are places of a block of that size, and there is room for a stop at each of them
pub record IsSelected (size : ℕ) (sel : List ℕ) (stops : List Stopped) : Type 0 where
  pub small : size ≤ MAX_PLACES
  pub inside : EachPlace sel (λ p. p < size)
  pub room : length stops + length sel ≤ MAX_PLACES

-- and the lane has each place of the block
pub record IsReady (size : ℕ) (sel : List ℕ) (lane : List ℤ) (stops : List Stopped) : Type 0 where
  pub selected : IsSelected size sel stops
  pub long : size ≤ length lane
