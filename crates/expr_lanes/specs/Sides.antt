-- The sides of operators and of choices.
use Rattle.std.specs.Prelude.{◌≡◌, ◌<◌, ℕ, ℤ, Bool, true, false, pos, List, length, if◌then◌else◌}
use Rattle.rdf_values.specs.{Bin, BinOp, Function, Lit, Neg, Not, num_tree, NumTree, Value}
use Rattle.rdf_model.specs.{◌>>=◌, Gives, is_zero, Outcome}
use Rattle.expr_lanes.specs.declared.kernels.Side.{Side}
use Rattle.expr_lanes.specs.declared.nodes.Branch.{Branch}
use Rattle.expr_lanes.specs.declared.nodes.Sides.{Sides}
use Rattle.expr_lanes.specs.Marks.{lane_at}
use Rattle.expr_lanes.specs.Places.{at_place}

-- the number of a side at a place
abbrev pub side_number : Side → ℕ → ℤ
side_number (Side.Number z) p = z
side_number (Side.Lane numbers) p = at_place numbers.now p

-- the side has a number at the place
abbrev pub HasNumber : Side → ℕ → Type 0
HasNumber (Side.Number z) p = Unit {0}
HasNumber (Side.Lane numbers) p = p < length numbers.now

-- at each place of a block of that size the side has the number that the place comes to
abbrev pub IsAtHand : ℕ → (ℕ → Outcome ℕ ℤ) → Side → Type 0
IsAtHand size f side = (p : ℕ) → p < size → HasNumber side p × (f p ≡ Gives (side_number side p))

-- the operator with its sides
abbrev pub sides_tree : {S : Type 0} → Sides S → NumTree
sides_tree s = Bin s.op (num_tree s.left.now) (num_tree s.right.now)

-- the operator has one side
abbrev pub is_unary : NumTree → Bool
is_unary (Neg a) = true
is_unary (Not a) = true
is_unary e = false

-- the other sign is a difference from 0, and the other truth value an equality with 0
abbrev pub with_zero : NumTree → NumTree
with_zero (Neg a) = Bin BinOp.Sub (Lit (pos 0)) a
with_zero (Not a) = Bin BinOp.Eq a (Lit (pos 0))
with_zero e = e

-- the left side may decide
abbrev pub is_decider : BinOp → Bool
is_decider BinOp.And = true
is_decider BinOp.Or = true
is_decider o = false

module _ {S : Type 0} (look : S → ℕ → ℕ → Outcome ℕ Value) (functions : S → List Function) (s : S) where
  -- what a side comes to at a place where the condition came to that number
  abbrev pub branch_at : Branch → ℤ → ℕ → Outcome ℕ ℤ
  branch_at (Branch.Node e) z p = lane_at look functions s (num_tree e.now) p
  branch_at Branch.Same z p = Gives z

  -- what a choice comes to at a place: where the condition is 0, and elsewhere
  abbrev pub choice_at : NumTree → Branch → Branch → ℕ → Outcome ℕ ℤ
  choice_at c zero other p = lane_at look functions s c p >>= λ x. if is_zero x then branch_at zero x p else branch_at other x p
