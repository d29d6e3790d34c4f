-- What is known of keys over a block.
use Rattle.std.specs.Prelude.{◌≡◌, ◌++◌, ◌≤◌, ◌+◌, ◌/◌, ℕ, zero, suc, max, min, ℤ, Bool, true, false, ◌||◌, not, List, IsPermutation, length, map, All, count_by}
use Rattle.rdf_values.specs.{ColType, Value}
use Rattle.rdf_model.specs.{Gives, Outcome}
use Rattle.expr_check.specs.{is_vector}
use Rattle.expr_lanes.specs.{at_place, EachPlace, given_in, is_in, is_marked, lane_number, Stopped, stops_in}
use Rattle.expr_lanes.specs.declared.TheConstants.{MAX_PLACES}
use Rattle.block_cache.specs.declared.sizes.TheConstants.{MAX_LANE_PLACES}
use Rattle.block_cache.specs.Values.{HasNumbered, value_for}

-- the kind of the key's values and how many places the block has; for each place that a block can have a number, whether the
-- evaluation was begun there, and whether it came to the value that the number stands for; and the vectors, by their numbers
pub record LaneView : Type 0 where
  pub kind : ColType
  pub count : ℕ
  pub numbers : List ℤ
  pub vectors : List (List ℤ)
  pub tried : List Bool
  pub held : List Bool

-- how many places a block can have
abbrev pub room_of : LaneView → ℕ
room_of l = length l.numbers

-- the evaluation was begun at the place
abbrev pub is_tried : LaneView → ℕ → Bool
is_tried l p = is_marked l.tried p

-- a value is held at the place
abbrev pub is_held : LaneView → ℕ → Bool
is_held l p = is_marked l.held p

-- the value that is held at the place, if one is
abbrev pub value_of : LaneView → ℕ → Value
value_of l p = value_for l.kind l.vectors (at_place l.numbers p)

-- at how many places the evaluation was begun
abbrev pub tried_count : LaneView → ℕ
tried_count l = count_by (λ b. b) l.tried

-- what is held of each place has the number of its value: 1 or 0 for a truth value
abbrev pub AreNumbers : LaneView → Type 0
AreNumbers l = (p : ℕ) → is_held l p ≡ true → lane_number (value_of l p) ≡ at_place l.numbers p

-- a lane has marks for all its numbers; behind the block nothing was begun; what is held was begun, and its number is that of its value,
-- or of a vector that is there
pub record IsLane (l : LaneView) : Type 0 where
  pub small : room_of l ≤ MAX_PLACES
  pub tried : length l.tried ≡ room_of l
  pub held : length l.held ≡ room_of l
  pub within : l.count ≤ room_of l
  pub behind : (p : ℕ) → l.count ≤ p → is_tried l p ≡ false
  pub begun : (p : ℕ) → is_tried l p ≡ false → is_held l p ≡ false
  pub exact : is_vector l.kind ≡ false → AreNumbers l
  pub there : (p : ℕ) → is_held l p ≡ true → HasNumbered l.kind l.vectors (at_place l.numbers p)

-- a lane of the same key, with as much room
pub record IsSameLane (before after : LaneView) : Type 0 where
  pub kind : after.kind ≡ before.kind
  pub room : room_of after ≡ room_of before

-- nothing is known of the lane, in a block of so many places
pub record IsUnknown (size : ℕ) (l : LaneView) : Type 0 where
  pub count : l.count ≡ size
  pub tried : (p : ℕ) → is_tried l p ≡ false
  pub held : (p : ℕ) → is_held l p ≡ false
  pub none : tried_count l ≡ 0

-- the key's evaluation was begun at the places of a selection
pub record IsBegunAt (sel : List ℕ) (before after : LaneView) : Type 0 where
  pub same : IsSameLane before after
  pub count : after.count ≡ before.count
  pub tried : (p : ℕ) → is_tried after p ≡ (is_in p sel || is_tried before p)
  pub newly : tried_count after ≡ tried_count before + count_by (λ p. not (is_tried before p)) sel

-- and no more came of it: what is held is as it was
pub record IsBegun (sel : List ℕ) (before after : LaneView) : Type 0 where
  pub begun : IsBegunAt sel before after
  pub held : (p : ℕ) → is_held after p ≡ is_held before p
  pub kept : (p : ℕ) → is_held before p ≡ true → value_of after p ≡ value_of before p

-- the key was evaluated at the places of a selection: the evaluation was begun at each, and those that came to a value hold it; the
-- others are stops; what was held is as it was
pub record IsEvaluated (f : ℕ → Outcome ℕ Value) (sel left : List ℕ) (before after : LaneView) (stops more : List Stopped) : Type 0 where
  pub begun : IsBegunAt sel before after
  pub left_in : left ≡ given_in f sel
  pub held : (p : ℕ) → is_held after p ≡ (is_in p left || is_held before p)
  pub values : EachPlace left (λ p. f p ≡ Gives (value_of after p))
  pub kept : (p : ℕ) → is_in p sel ≡ false → is_held before p ≡ true → value_of after p ≡ value_of before p
  pub joined : IsPermutation (stops ++ stops_in f sel) more

-- ---- the lanes of all keys

-- the kinds of their values
abbrev pub kinds_of : List LaneView → List ColType
kinds_of ls = map (λ (l : LaneView). l.kind) ls

-- for how many places each has room
abbrev pub rooms_of : List LaneView → List ℕ
rooms_of ls = map room_of ls

-- each has room for blocks of so many places
abbrev pub HaveRoom : ℕ → List LaneView → Type 0
HaveRoom room ls = All (λ l. room_of l ≡ room) ls

-- nothing is known of any, in a block of so many places
abbrev pub AreUnknown : ℕ → List LaneView → Type 0
AreUnknown count ls = All (IsUnknown count) ls

-- how many places a block has: as many as fit for so many keys, but from 1 to 1,024
abbrev pub size_for : ℕ → ℕ
size_for zero = MAX_PLACES
size_for (suc n) = max 1 (min MAX_PLACES (MAX_LANE_PLACES / suc n))
