-- The values of a lane's places, and how far an evaluation at one place after another has come.
use Rattle.std.specs.Prelude.{◌≡◌, ◌≤◌, ◌<◌, ◌+◌, ◌-◌, ◌++◌, ⊤, ℕ, ℤ, Bool, true, not, List, [], length, take, drop, nat_abs, Result, Ok, Err, slice_index_or, false, Option, Some, None, All, Contains, if◌then◌else◌, nat_le, zero, suc, ◌∷◌}
use Rattle.rdf_values.specs.{ColType, FitsKind, Value, EntryFault}
use Rattle.rdf_model.specs.{Gives, is_set, mark, Outcome}
use Rattle.expr_eval.specs.{EvalStop, ScalarStop}
use Rattle.expr_eval.specs.declared.stop.EvalStop.TheVariants.{Memory}
use Rattle.expr_lanes.specs.{at_place, EachPlace, is_given, is_in, is_marked, Stopped, stops_in, with_stop, stopped}
use Rattle.block_cache.specs.declared.vectors.CellRange.{CellRange}
use Rattle.expr_eval.specs.declared.stop.ScalarStop.TheVariants.{Fault, Need}
use Rattle.block_cache.specs.declared.faults.PlaceFault.{PlaceFault}
use Rattle.block_cache.specs.declared.block_marks.Extent.{Extent}

-- the cells of one vector among those of all
abbrev pub cells_in : List ℤ → CellRange → List ℤ
cells_in all c = take (c.to - c.from) (drop c.from all)

-- they are there
abbrev pub AreThere : List ℤ → CellRange → Type 0
AreThere all c = (c.from ≤ c.to) × (c.to ≤ length all)

-- the value of that kind with the number of a place: a vector's number is its own among those of the block
abbrev pub value_for : ColType → List (List ℤ) → ℤ → Value
value_for ColType.Int vectors z = Value.Int z
value_for ColType.Bool vectors z = Value.Bool (is_set z)
value_for ColType.Vect vectors z = Value.Vect (slice_index_or vectors (nat_abs z) [])

-- a value of that kind with the number is there
abbrev pub HasNumbered : ColType → List (List ℤ) → ℤ → Type 0
HasNumbered ColType.Vect vectors z = nat_abs z < length vectors
HasNumbered k vectors z = ⊤

-- the number is that of the value
abbrev pub IsNumberOf : List (List ℤ) → Value → ℤ → Type 0
IsNumberOf vectors (Value.Int x) z = z ≡ x
IsNumberOf vectors (Value.Bool b) z = z ≡ mark b
IsNumberOf vectors (Value.Vect xs) z = (nat_abs z < length vectors) × (slice_index_or vectors (nat_abs z) [] ≡ xs)

-- the vectors that were there are there still, with their numbers
abbrev pub AreKept : List (List ℤ) → List (List ℤ) → Type 0
AreKept before after = (i : ℕ) → i < length before → (i < length after) × (slice_index_or after i [] ≡ slice_index_or before i [])

-- what an outcome gives is of the kind, and the number is that of its value
pub record HasNumber (kind : ColType) (o : Outcome ℕ Value) (vectors : List (List ℤ)) (number : ℤ) : Type 0 where
  pub value : Value
  pub gives : o ≡ Gives value
  pub fits : FitsKind kind value
  pub numbered : IsNumberOf vectors value number

-- no vector
abbrev pub IsScalar : Value → Type 0
IsScalar (Value.Vect xs) = ⊥
IsScalar v = ⊤

-- the answer is no vector, and no want of memory
abbrev pub IsScalarAnswer : Result Value EvalStop → Type 0
IsScalarAnswer (Ok v) = IsScalar v
IsScalarAnswer (Err Memory) = ⊥
IsScalarAnswer (Err stop) = ⊤

-- numbers were written at places of a selection alone, and no vector was lost
pub record AreWritten (sel : List ℕ) (numbers after : List ℤ) (vectors more : List (List ℤ)) : Type 0 where
  pub long : length after ≡ length numbers
  pub others : (p : ℕ) → is_in p sel ≡ false → at_place after p ≡ at_place numbers p
  pub kept : AreKept vectors more

-- a number was written at the place alone, if at all, and no vector was lost
pub record IsWritten (q : ℕ) (numbers after : List ℤ) (vectors more : List (List ℤ)) : Type 0 where
  pub long : length after ≡ length numbers
  pub others : (p : ℕ) → (p ≡ q → ⊥) → at_place after p ≡ at_place numbers p
  pub kept : AreKept vectors more

-- the place came to an outcome: its value is there, or it is marked and a stop
pub record IsTurned (kind : ColType) (o : Outcome ℕ Value) (q : ℕ) (numbers : List ℤ) (vectors : List (List ℤ)) (marks after : List Bool) (stops more : List Stopped) : Type 0 where
  pub value : is_given o ≡ true → HasNumber kind o vectors (at_place numbers q)
  pub mark : is_marked after q ≡ not (is_given o)
  pub others : (p : ℕ) → (p ≡ q → ⊥) → is_marked after p ≡ is_marked marks p
  pub long : length after ≡ length marks
  pub stopped : more ≡ stops ++ with_stop q o []

-- each of the places came to its outcome
pub record HaveCome (kind : ColType) (f : ℕ → Outcome ℕ Value) (places : List ℕ) (numbers : List ℤ) (vectors : List (List ℤ)) (marks : List Bool) (stops more : List Stopped) : Type 0 where
  pub values : EachPlace places (λ p. is_given (f p) ≡ true → HasNumber kind (f p) vectors (at_place numbers p))
  pub marked : EachPlace places (λ p. is_marked marks p ≡ not (is_given (f p)))
  pub stopped : more ≡ stops ++ stops_in f places
  pub few : length more ≤ length stops + length places

-- ---- the first fault among places that came to no value

-- the fault of a stop, if it is one
abbrev pub fault_of : ScalarStop → Option EntryFault
fault_of (Fault k) = Some k
fault_of (Need c) = None

-- a fault at the place
abbrev pub fault_at : ℕ → EntryFault → PlaceFault
fault_at p k = record { place = p; kind = k }

-- the stop is no fault at a place below
abbrev pub IsNotBelow : ℕ → Stopped → Type 0
IsNotBelow p s = (k : EntryFault) → fault_of s.stop ≡ Some k → p ≤ s.place

-- no stop is a fault; or one of them is this fault, and none has a fault at a place below
abbrev pub IsLeastFault : List Stopped → Option PlaceFault → Type 0
IsLeastFault stops None = All (λ (s : Stopped). fault_of s.stop ≡ None) stops
IsLeastFault stops (Some f) = Contains stops (stopped f.place (Fault f.kind)) × All (IsNotBelow f.place) stops

-- the lesser of a fault and a stop, where that is a fault at a lower place
abbrev pub lesser_fault : Option PlaceFault → ℕ → ScalarStop → Option PlaceFault
lesser_fault least p (Need c) = least
lesser_fault None p (Fault k) = Some (fault_at p k)
lesser_fault (Some f) p (Fault k) = if nat_le f.place p then Some f else Some (fault_at p k)

-- ---- marks of the places of a block

-- how many places the block has, and for each that a block can have whether it is marked
pub record MarksView : Type 0 where
  pub count : ℕ
  pub marks : List Bool

-- the list with its first places marked
abbrev pub marked_to : ℕ → List Bool → List Bool
marked_to zero marks = marks
marked_to (suc n) [] = []
marked_to (suc n) (m ∷ marks) = true ∷ marked_to n marks

-- the marks of a block of so many places, by those that are written: none need be where all of it is marked
abbrev pub marks_of : Extent → ℕ → List Bool → List Bool
marks_of Extent.Nothing count written = written
marks_of Extent.Some count written = written
marks_of Extent.All count written = marked_to count written

-- unless some places are marked and others may not be, none is written
abbrev pub IsBare : Extent → List Bool → Type 0
IsBare Extent.Some written = Unit {0}
IsBare e written = (p : ℕ) → is_marked written p ≡ false

-- and none behind the block
pub record AreWrittenMarks (e : Extent) (count : ℕ) (written : List Bool) : Type 0 where
  pub within : count ≤ length written
  pub behind : (p : ℕ) → count ≤ p → is_marked written p ≡ false
  pub bare : IsBare e written
