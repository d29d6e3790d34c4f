-- Expressions over numbers, where a truth value is its mark: what a lane holds of them, and what their evaluation over a block comes to.
use Rattle.std.specs.Prelude.{◌≡◌, ◌++◌, ℕ, ℤ, pos, false, neg_ℤ, nat_abs, List, [], ◌∷◌, IsPermutation, map, if◌then◌else◌, slice_get, Option, Some, None}
use Rattle.rdf_values.specs.{Bin, BinOp, Call, Callee, Col, ColType, Cond, End, Function, Lit, More, Neg, Not, NumTree, Pick, Trees, Value}
use Rattle.rdf_values.specs.expressions.Expressions.{Truth}
use Rattle.rdf_model.specs.{◌>>=◌, answer_outcome, checked, Faults, Gives, is_set, is_zero, mark, Needs, number_operation, Outcome}
use Rattle.expr_lanes.specs.declared.folds.FoldCall.{FoldCall}
use Rattle.expr_lanes.specs.declared.scratch.Scratch.{Scratch}
use Rattle.expr_lanes.specs.declared.parting.Stopped.{Stopped}
use Rattle.expr_lanes.specs.Folds.{fold_read, fold_told}
use Rattle.expr_lanes.specs.Places.{at_place, given_in, is_in, stops_in, EachPlace}

-- the number that a lane holds for a value: 1 or 0 for a truth value
abbrev pub lane_number : Value → ℤ
lane_number (Value.Int z) = z
lane_number (Value.Bool b) = mark b
lane_number (Value.Vect zs) = pos 0

-- the value of that kind for which a lane holds the number
abbrev pub lane_value : ColType → ℤ → Value
lane_value ColType.Int z = Value.Int z
lane_value ColType.Bool z = Value.Bool (is_set z)
lane_value ColType.Vect z = Value.Vect []

-- an outcome as a lane holds it
abbrev pub lane_outcome : {M : Type 0} → Outcome M Value → Outcome M ℤ
lane_outcome (Gives v) = Gives (lane_number v)
lane_outcome (Faults kind) = Faults kind
lane_outcome (Needs m) = Needs m

-- an operator on marks: && and || take the right side only where the left doesn't decide
abbrev pub lane_operation : BinOp → Outcome ℕ ℤ → Outcome ℕ ℤ → Outcome ℕ ℤ
lane_operation BinOp.And l r = l >>= λ x. if is_zero x then Gives x else r
lane_operation BinOp.Or l r = l >>= λ x. if is_zero x then r else Gives x
lane_operation o l r = l >>= λ x. r >>= λ y. number_operation o x y

-- the answer of a function of the list, or a fault where it has none
abbrev pub answer_number : Option ℤ → Outcome ℕ ℤ
answer_number (Some z) = Gives z
answer_number None = lane_outcome (answer_outcome None)

abbrev pub given_number : Option Function → List ℤ → Outcome ℕ ℤ
given_number None zs = Gives (pos 0)
given_number (Some f) zs = answer_number (f.answer zs)

-- a call with numbers
abbrev pub lane_call : List Function → Callee → List ℤ → Outcome ℕ ℤ
lane_call functions Callee.Abs (z ∷ []) = checked (pos (nat_abs z))
lane_call functions (Callee.Given i) zs = given_number (slice_get functions i) zs
lane_call functions f zs = Gives (pos 0)

-- an argument before others
abbrev pub one_more : Outcome ℕ ℤ → Outcome ℕ (List ℤ) → Outcome ℕ (List ℤ)
one_more o r = o >>= λ z. r >>= λ zs. Gives (z ∷ zs)

-- what a call of a fold comes to, by what each column comes to; other calls come to the other outcome
abbrev pub fold_or : (ℕ → Outcome ℕ Value) → Option FoldCall → Outcome ℕ ℤ → Outcome ℕ ℤ
fold_or look (Some x) o = lane_outcome (fold_told x.fold (look x.column))
fold_or look None o = o

-- with what each column comes to, and the functions
module _ (look : ℕ → Outcome ℕ Value) (functions : List Function) where
  abbrev mutual
    -- what an expression comes to
    pub lane_evaluate : NumTree → Outcome ℕ ℤ
    lane_evaluate (Lit z) = Gives z
    lane_evaluate (Truth b) = Gives (mark b)
    lane_evaluate (Col c) = lane_outcome (look c)
    lane_evaluate (Neg a) = lane_evaluate a >>= λ x. checked (neg_ℤ x)
    lane_evaluate (Not a) = lane_evaluate a >>= λ x. Gives (mark (is_zero x))
    lane_evaluate (Bin o a b) = lane_operation o (lane_evaluate a) (lane_evaluate b)
    lane_evaluate (Cond c a b) = lane_evaluate c >>= λ x. if is_zero x then lane_evaluate b else lane_evaluate a
    lane_evaluate (Pick v i) = Gives (pos 0)
    lane_evaluate (Call f args) = fold_or look (fold_read f args) (lane_evaluate_all args >>= lane_call functions f)

    -- what the arguments of a call come to
    pub lane_evaluate_all : Trees ℕ Callee → Outcome ℕ (List ℤ)
    lane_evaluate_all End = Gives []
    lane_evaluate_all (More a rest) = one_more (lane_evaluate a) (lane_evaluate_all rest)

-- in a scope, at a place of the block
module _ {S : Type 0} (look : S → ℕ → ℕ → Outcome ℕ Value) (functions : S → List Function) (s : S) where
  -- what an expression comes to
  abbrev pub lane_at : NumTree → ℕ → Outcome ℕ ℤ
  lane_at e p = lane_evaluate (look s p) (functions s) e

  -- and the arguments of a call
  abbrev pub lanes_at : Trees ℕ Callee → ℕ → Outcome ℕ (List ℤ)
  lanes_at args p = lane_evaluate_all (look s p) (functions s) args

  -- a call with the numbers that the arguments come to
  abbrev pub called_at : Callee → Trees ℕ Callee → ℕ → Outcome ℕ ℤ
  called_at f args p = lanes_at args p >>= lane_call (functions s) f

-- what the left lanes of some levels hold at a place
abbrev pub numbers_at : List Scratch → ℕ → List ℤ
numbers_at lanes p = map (λ (s : Scratch). at_place s.left p) lanes

-- the selected places came to their outcomes: left are those that came to a value, in order, for which the lane holds its number; it is
-- as it was at each place that wasn't selected; and each other place is a stop, once, with its fault or the column that it lacks
pub record HasValues (kind : ColType) (f : ℕ → Outcome ℕ Value) (sel left : List ℕ) (before after : List ℤ) (stops more : List Stopped) : Type 0 where
  pub left_in : left ≡ given_in f sel
  pub values : EachPlace left (λ p. f p ≡ Gives (lane_value kind (at_place after p)))
  pub exact : EachPlace left (λ p. lane_outcome (f p) ≡ Gives (at_place after p))
  pub others : (p : ℕ) → is_in p sel ≡ false → at_place after p ≡ at_place before p
  pub joined : IsPermutation (stops ++ stops_in f sel) more
