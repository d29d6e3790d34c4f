-- What is told of a column, and what an evaluation answers, as outcomes.
use Rattle.std.specs.Prelude.{◌≡◌, ℕ, ℤ, pos, List, ◌++◌, Result, Ok, Err, Bool, true, false, Option, Some, None, ◌<◌, ◌≤◌, length, HoldsAt}
use Rattle.rdf_values.specs.{EntryFault, Scalar, Value, BinOp, args_count, Bin, Call, Callee, Col, Cond, End, Function, Lit, More, Neg, Not, NumTree, Pick, Trees}
use Rattle.rdf_model.specs.{◌>>=◌, Faults, Gives, gives_int, gives_vect, Needs, Outcome, sum_from}
use Rattle.expr_eval.specs.declared.inputs.ColumnInput.{ColumnInput}
use Rattle.expr_eval.specs.declared.stop.EvalStop.{EvalStop}
use Rattle.expr_eval.specs.declared.stop.ScalarStop.{ScalarStop}
use Rattle.expr_eval.specs.declared.operand.Operand.{Operand}
use Rattle.expr_eval.specs.declared.operand.OperandView.{OperandView}
use Rattle.rdf_values.specs.expressions.Expressions.{Truth}

-- what is told of the column, as an outcome
abbrev pub input_outcome : ℕ → ColumnInput → Outcome ℕ Value
input_outcome c (ColumnInput.Int z) = Gives (Value.Int z)
input_outcome c (ColumnInput.Bool b) = Gives (Value.Bool b)
input_outcome c (ColumnInput.Vect zs) = Gives (Value.Vect zs.now)
input_outcome c (ColumnInput.Faulted kind) = Faults kind
input_outcome c ColumnInput.Missing = Needs c

-- a number or truth value, as a value
abbrev pub scalar_value : Scalar → Value
scalar_value (Scalar.Int z) = Value.Int z
scalar_value (Scalar.Bool b) = Value.Bool b

-- the answer of an evaluation without vectors
abbrev pub scalar_outcome : Result Scalar ScalarStop → Outcome ℕ Value
scalar_outcome (Ok s) = Gives (scalar_value s)
scalar_outcome (Err (ScalarStop.Fault kind)) = Faults kind
scalar_outcome (Err (ScalarStop.Need c)) = Needs c

-- the answer of an operation on numbers
abbrev pub number_outcome : Result ℤ EntryFault → Outcome ℕ ℤ
number_outcome (Ok z) = Gives z
number_outcome (Err kind) = Faults kind

-- the number as a value, or the fault
abbrev pub number_value : Result ℤ EntryFault → Outcome ℕ Value
number_value (Ok z) = Gives (Value.Int z)
number_value (Err kind) = Faults kind

-- the sum of a vector, as a value
abbrev pub sum_of : List ℤ → Outcome ℕ Value
sum_of zs = sum_from (pos 0) zs >>= gives_int

-- what an evaluation that may want memory answers: the stop is the outcome's fault or need, or want of memory
abbrev pub StopsAs : {A : Type 0} → Outcome ℕ A → EvalStop → Type 0
StopsAs o (EvalStop.Fault kind) = o ≡ Faults kind
StopsAs o (EvalStop.Need c) = o ≡ Needs c
StopsAs o EvalStop.Memory = Unit {0}

-- the answer is the outcome, or want of memory
abbrev pub AnswersAs : {A B : Type 0} → (B → A) → Outcome ℕ A → Result B EvalStop → Type 0
AnswersAs view o (Ok b) = o ≡ Gives (view b)
AnswersAs view o (Err stop) = StopsAs o stop

-- an outcome that gives what follows some elements
abbrev pub following : {A : Type 0} → List A → Outcome ℕ (List A) → Outcome ℕ (List A)
following before o = o >>= λ rest. Gives (before ++ rest)

-- the arguments came to values, which were appended, or to that fault or need, or memory was wanted
abbrev pub AppendsAs : {A B : Type 0} → Outcome ℕ (List A) → List A → List A → Result B EvalStop → Type 0
AppendsAs o before after (Ok u) = following before o ≡ Gives after
AppendsAs o before after (Err stop) = StopsAs o stop

-- the elements as a value
abbrev pub vector_outcome : Outcome ℕ (List ℤ) → Outcome ℕ Value
vector_outcome o = o >>= gives_vect

-- ---- the values of operands

-- an operand, as a value
abbrev pub operand_value : Operand → Value
operand_value (Operand.Int z) = Value.Int z
operand_value (Operand.Bool b) = Value.Bool b
operand_value (Operand.Lent zs) = Value.Vect zs.now
operand_value (Operand.Owned zs) = Value.Vect zs.items

-- what is seen of an operand, as a value
abbrev pub view_value : OperandView → Value
view_value (OperandView.Int z) = Value.Int z
view_value (OperandView.Bool b) = Value.Bool b
view_value (OperandView.Vect zs) = Value.Vect zs.now

-- what the left side of && or || decides by itself
abbrev pub decision : BinOp → Value → Option Bool
decision BinOp.And (Value.Bool false) = Some false
decision BinOp.Or (Value.Bool true) = Some true
decision o v = None

-- ---- calls that a list of functions can answer

-- a call of a built-in function
abbrev pub IsBuiltIn : Callee → Type 0
IsBuiltIn (Callee.Given i) = ⊥
IsBuiltIn callee = Unit {0}

-- a function of the list is one of its places, and takes that many numbers
abbrev pub CallFits : List Function → Callee → ℕ → Type 0
CallFits functions (Callee.Given i) count = (i < length functions) × HoldsAt (λ f. count ≡ f.arity) functions i
CallFits functions callee count = Unit {0}

module _ (functions : List Function) where
  abbrev mutual
    -- each call is of a function that is there, with as many arguments as it takes and at most 8
    pub CanCall : NumTree → Type 0
    CanCall (Lit z) = Unit {0}
    CanCall (Truth b) = Unit {0}
    CanCall (Col c) = Unit {0}
    CanCall (Neg a) = CanCall a
    CanCall (Not a) = CanCall a
    CanCall (Bin op a b) = CanCall a × CanCall b
    CanCall (Cond c a b) = CanCall c × CanCall a × CanCall b
    CanCall (Pick v i) = CanCall v × CanCall i
    CanCall (Call f args) = CallFits functions f (args_count args) × (args_count args ≤ 8) × ArgumentsCanCall args

    -- each call in the arguments is
    pub ArgumentsCanCall : Trees ℕ Callee → Type 0
    ArgumentsCanCall End = Unit {0}
    ArgumentsCanCall (More a rest) = CanCall a × ArgumentsCanCall rest
