-- Built-in functions of a vector that give a number.
use Rattle.std.specs.Prelude.{◌≡◌, ℕ, true, [], ◌∷◌, Option, Some, None, MatchOption}
use Rattle.rdf_values.specs.{Bin, Call, Callee, Col, Cond, End, Lit, More, Neg, Not, NumTree, Pick, Trees, Value}
use Rattle.rdf_values.specs.expressions.Expressions.{Truth}
use Rattle.rdf_model.specs.{◌>>=◌, call_outcome, Outcome}
use Rattle.expr_check.specs.{takes_no_vector}
use Rattle.expr_lanes.specs.declared.folds.Fold.{Fold}
use Rattle.expr_lanes.specs.declared.folds.FoldCall.{FoldCall}

-- the function by its name in expressions
abbrev pub callee_of : Fold → Callee
callee_of Fold.Sum = Callee.Sum
callee_of Fold.Size = Callee.Size
callee_of Fold.Least = Callee.Min
callee_of Fold.Greatest = Callee.Max

abbrev pub fold_named : Callee → Option Fold
fold_named Callee.Sum = Some Fold.Sum
fold_named Callee.Size = Some Fold.Size
fold_named Callee.Min = Some Fold.Least
fold_named Callee.Max = Some Fold.Greatest
fold_named f = None

-- the column that an argument is
abbrev pub column_of : NumTree → Option ℕ
column_of (Col c) = Some c
column_of a = None

-- the column that is the only argument
abbrev pub only_column : Trees ℕ Callee → Option ℕ
only_column (More a End) = column_of a
only_column args = None

abbrev pub fold_with : Option Fold → Option ℕ → Option FoldCall
fold_with (Some f) (Some c) = Some (record { fold = f; column = c })
fold_with f c = None

-- the call of one with a column, if the call is one
abbrev pub fold_read : Callee → Trees ℕ Callee → Option FoldCall
fold_read f args = fold_with (fold_named f) (only_column args)

-- what it comes to with a value
abbrev pub fold_outcome : Fold → Value → Outcome ℕ Value
fold_outcome f v = call_outcome [] (callee_of f) (v ∷ [])

-- and with what a column comes to
abbrev pub fold_told : Fold → Outcome ℕ Value → Outcome ℕ Value
fold_told f o = o >>= fold_outcome f

-- an expression can be evaluated over lanes: a column whose elements such a function takes can be told at each place, and each other
-- one can be read as numbers
module _ (IsNumbers IsTold : ℕ → Type 0) where
  abbrev mutual
    pub CanLane : NumTree → Type 0
    CanLane (Lit z) = Unit {0}
    CanLane (Truth b) = Unit {0}
    CanLane (Col c) = IsNumbers c
    CanLane (Neg a) = CanLane a
    CanLane (Not a) = CanLane a
    CanLane (Bin op a b) = CanLane a × CanLane b
    CanLane (Cond c a b) = CanLane c × CanLane a × CanLane b
    CanLane (Pick v i) = ⊥
    CanLane (Call f args) = MatchOption (fold_read f args) ((takes_no_vector f ≡ true) × CanLaneAll args) (λ x. IsTold x.column)

    pub CanLaneAll : Trees ℕ Callee → Type 0
    CanLaneAll End = Unit {0}
    CanLaneAll (More a rest) = CanLane a × CanLaneAll rest
