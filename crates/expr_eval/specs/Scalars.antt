-- Evaluations without vectors.
use Rattle.std.specs.Prelude.{◌≡◌, Bool, true, false, ℕ, ℤ, pos, nat_abs, List, [], ◌∷◌, ◌++◌, map, slice_get, Result, Ok, Err}
use Rattle.rdf_values.specs.{Bin, Callee, Col, EachColumn, Function, Lit, NumTree, Value}
use Rattle.rdf_model.specs.{◌>>=◌, argument, checked, Faults, given_call, Gives, gives_int, Needs, Outcome, untyped}
use Rattle.expr_eval.specs.Answers.{CanCall}
use Rattle.expr_eval.specs.declared.stop.ScalarAnswer.{ScalarAnswer}
use Rattle.expr_eval.specs.declared.stop.ScalarStop.{ScalarStop}
use Rattle.expr_eval.specs.declared.stop.ScalarStop.TheVariants.{Fault, Need}

-- a value is no vector
abbrev pub IsScalar : Value → Type 0
IsScalar (Value.Vect zs) = ⊥
IsScalar v = Unit {0}

-- an outcome gives no vector
abbrev pub GivesScalar : {M : Type 0} → Outcome M Value → Type 0
GivesScalar (Gives v) = IsScalar v
GivesScalar o = Unit {0}

-- a part of a plain expression: each column can be asked for and gives no vector, and each call can be made
abbrev pub IsScalarPart : (ℕ → Type 0) → (ℕ → Outcome ℕ Value) → List Function → NumTree → Type 0
IsScalarPart can look functions e = EachColumn can e × EachColumn (λ c. GivesScalar (look c)) e × CanCall functions e

-- the values are no vectors
abbrev pub AreScalars : List Value → Type 0
AreScalars [] = Unit {0}
AreScalars (v ∷ vs) = IsScalar v × AreScalars vs

-- what a part comes to, as an outcome
abbrev pub answered : ScalarAnswer → Outcome ℕ Value
answered (ScalarAnswer.Int z) = Gives (Value.Int z)
answered (ScalarAnswer.Bool b) = Gives (Value.Bool b)
answered (ScalarAnswer.Fault kind) = Faults kind
answered (ScalarAnswer.Need c) = Needs c

-- a call of a function with numbers
abbrev pub number_call : List Function → Callee → List ℤ → Outcome ℕ Value
number_call functions Callee.Abs (z ∷ []) = checked (pos (nat_abs z)) >>= gives_int
number_call functions (Callee.Given i) zs = given_call (slice_get functions i) zs
number_call functions f zs = untyped

-- the arguments came to these values, which were appended as numbers, or to that fault or need
abbrev pub Gathers : {A : Type 0} → Result A ScalarStop → List ℤ → List ℤ → Outcome ℕ (List Value) → Type 0
Gathers (Ok u) before after (Gives vs) = AreScalars vs × (after ≡ before ++ map argument vs)
Gathers (Err (Fault kind)) before after (Faults other) = kind ≡ other
Gathers (Err (Need c)) before after (Needs other) = c ≡ other
Gathers r before after o = ⊥

-- a part that is no number, no column and no operator of two sides
abbrev pub is_other : NumTree → Bool
is_other (Lit z) = false
is_other (Col c) = false
is_other (Bin o a b) = false
is_other e = true
