-- What an evaluation over a block asks of an expression, and how many levels of scratch it takes.
use Rattle.std.specs.Prelude.{ℕ, ◌+◌, ◌≤◌, max, List, ◌≡◌, ◌<◌, ℤ, Bool, true, false, Some, length, slice_get, slice_index_or}
use Rattle.rdf_values.specs.{args_count, Bin, Call, Callee, Col, Cond, End, Function, Lit, More, Neg, Not, num_tree, NumTree, Pick, Trees, Value}
use Rattle.rdf_values.specs.expressions.Expressions.{Truth}
use Rattle.expr_eval.specs.{ArgumentsCanCall}
use Rattle.expr_eval.specs.Answers.{CanCall}
use Rattle.expr_lanes.specs.declared.nodes.Branch.{Branch}
use Rattle.expr_lanes.specs.Folds.{CanLane, CanLaneAll}
use Rattle.rdf_model.specs.{Gives, Outcome}
use Rattle.expr_lanes.specs.declared.lane_inputs.KnownPlaces.{KnownPlaces}
use Rattle.expr_lanes.specs.declared.lane_inputs.KnownPlaces.TheVariants.{Everywhere, Marked}

abbrev mutual
  -- one for each part that stands in another, at the deepest
  pub depth : NumTree → ℕ
  depth (Lit z) = 0
  depth (Truth b) = 0
  depth (Col c) = 0
  depth (Neg a) = depth a + 1
  depth (Not a) = depth a + 1
  depth (Bin op a b) = max (depth a) (depth b) + 1
  depth (Cond c a b) = max (depth c) (max (depth a) (depth b)) + 1
  depth (Pick v i) = 0
  depth (Call f args) = args_count args + depth_of_all args

  -- the most that an argument takes
  pub depth_of_all : Trees ℕ Callee → ℕ
  depth_of_all End = 0
  depth_of_all (More a rest) = max (depth a) (depth_of_all rest)

-- with what can be read and called in a scope
module _ {S : Type 0} (IsNumbers IsTold : S → ℕ → Type 0) (functions : S → List Function) (s : S) (levels : ℕ) where
  -- what it reads can be read, its calls can be made, and the levels of scratch are enough
  pub record IsAble (e : NumTree) : Type 0 where
    pub can : CanLane (IsNumbers s) (IsTold s) e
    pub calls : CanCall (functions s) e
    pub deep : depth e ≤ levels

  -- the same of the arguments of a call, each of which takes a level
  pub record AreAble (args : Trees ℕ Callee) : Type 0 where
    pub can : CanLaneAll (IsNumbers s) (IsTold s) args
    pub calls : ArgumentsCanCall (functions s) args
    pub deep : args_count args + depth_of_all args ≤ levels

  -- and of a side of a choice
  abbrev pub IsAbleBranch : Branch → Type 0
  IsAbleBranch (Branch.Node e) = IsAble (num_tree e.now)
  IsAbleBranch Branch.Same = Unit {0}

-- ---- what an evaluation over a block is told of a column

-- the column is known at the place
abbrev pub is_known : KnownPlaces → ℕ → Bool
is_known Everywhere p = true
is_known (Marked marks) p = slice_index_or marks.now p false

-- a mask has a mark for each place of the block
abbrev pub HasMarks : ℕ → KnownPlaces → Type 0
HasMarks count Everywhere = Unit {0}
HasMarks count (Marked marks) = count ≤ length marks.now

-- an outcome is the vector at a place of a list
pub record IsVectorAt (vectors : List (List ℤ)) (i : ℕ) (o : Outcome ℕ Value) : Type 0 where
  pub there : i < length vectors
  pub told : (zs : List ℤ) → slice_get vectors i ≡ Some zs → o ≡ Gives (Value.Vect zs)
