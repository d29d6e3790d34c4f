-- The kind of an expression, or why it has none.
use Rattle.std.specs.Prelude.{ℕ, ◌+◌, Bool, true, false, ◌&&◌, List, [], ◌∷◌, length, map, replicate, if◌then◌else◌, nat_eq, codes, Result, Ok, Err}
use Rattle.rdf_values.specs.scripts.Names.{same}
use Rattle.rdf_values.specs.expressions.Expressions.{Tree, Trees, NamedTree, Lit, Truth, Col, Neg, Not, Bin, Cond, Pick, Call, End, More}
use Rattle.rdf_values.specs.declared.tables.table.Column.{Column}
use Rattle.rdf_values.specs.declared.expressions.expr.BinOp.{BinOp}
use Rattle.rdf_values.specs.declared.tables.value.ColType.{ColType}
use Rattle.rdf_values.specs.declared.scripts.script_cause.GraphCause.{GraphCause}
use Rattle.rdf_values.specs.declared.scripts.script_cause.GraphCause.TheVariants.{UnknownColumn, UnknownFunction, WrongType, WrongCount}
use Rattle.rdf_values.specs.declared.expressions.fn_names.FnName.{FnName}

-- goes on with the answer, and stops at a refusal
infixl 10 ◌>>=◌
abbrev pub ◌>>=◌ : {A B : Type 0} → Result A GraphCause → (A → Result B GraphCause) → Result B GraphCause
(Ok a) >>= f = f a
(Err e) >>= f = Err e

-- two kinds are the same
abbrev pub same_kind : ColType → ColType → Bool
same_kind ColType.Int ColType.Int = true
same_kind ColType.Bool ColType.Bool = true
same_kind ColType.Vect ColType.Vect = true
same_kind s t = false

-- two lists of kinds are the same
abbrev pub same_kinds : List ColType → List ColType → Bool
same_kinds [] [] = true
same_kinds (s ∷ ss) (t ∷ ts) = same_kind s t && same_kinds ss ts
same_kinds ss ts = false

-- ---- what an expression may name

-- the visible columns with their kinds
abbrev pub Scope : Type 0
Scope = List (List ℕ × ColType)

-- the columns of a table with their kinds
abbrev pub scope_of : List Column → Scope
scope_of columns = map (λ (c : Column). (c.name, c.kind)) columns

-- the kind of the column of that name
abbrev pub column_kind : Scope → List ℕ → Result ColType GraphCause
column_kind [] name = Err UnknownColumn
column_kind (c ∷ cs) name = if same c.0 name then Ok c.1 else column_kind cs name

-- what a function takes and gives
pub record Shape : Type 0 where
  pub takes : List ColType
  pub gives : ColType

-- what a function takes and gives, in one word
abbrev pub shape : List ColType → ColType → Shape
shape takes gives = record { takes = takes; gives = gives }

-- the built-in functions
abbrev pub built_in_shapes : List (List ℕ × Shape)
built_in_shapes =
    (codes "Sum", shape (ColType.Vect ∷ []) ColType.Int) ∷ (codes "Min", shape (ColType.Vect ∷ []) ColType.Int) ∷ (codes "Max", shape (ColType.Vect ∷ []) ColType.Int)
    ∷ (codes "Size", shape (ColType.Vect ∷ []) ColType.Int) ∷ (codes "Any", shape (ColType.Vect ∷ []) ColType.Bool) ∷ (codes "All", shape (ColType.Vect ∷ []) ColType.Bool)
    ∷ (codes "At", shape (ColType.Vect ∷ ColType.Int ∷ []) ColType.Int) ∷ (codes "abs", shape (ColType.Int ∷ []) ColType.Int) ∷ []

-- the caller's functions: their names, and how many numbers each takes
abbrev pub FunctionNames : Type 0
FunctionNames = List FnName

-- the caller's functions take numbers and give a number
abbrev pub shapes : FunctionNames → List (List ℕ × Shape)
shapes [] = []
shapes (f ∷ fs) = (f.name, shape (replicate f.arity ColType.Int) ColType.Int) ∷ shapes fs

-- the shape of that name in the list, or else the other answer
abbrev pub shape_in : List (List ℕ × Shape) → List ℕ → Result Shape GraphCause → Result Shape GraphCause
shape_in [] name other = other
shape_in (s ∷ ss) name other = if same s.0 name then Ok s.1 else shape_in ss name other

-- the shape of the function of that name
abbrev pub shape_of : FunctionNames → List ℕ → Result Shape GraphCause
shape_of names f = shape_in built_in_shapes f (shape_in (shapes names) f (Err UnknownFunction))

-- ---- what operators give

-- the kind that is named for two numbers, and a vector where a side is one
abbrev pub vector_unless_numbers : ColType → ColType → ColType → ColType
vector_unless_numbers of_numbers ColType.Int ColType.Int = of_numbers
vector_unless_numbers of_numbers s t = ColType.Vect

-- an operator on numbers and vectors, which gives the kind that is named for two numbers
abbrev pub arithmetic_kind : ColType → ColType → ColType → Result ColType GraphCause
arithmetic_kind of_numbers ColType.Bool t = Err WrongType
arithmetic_kind of_numbers s ColType.Bool = Err WrongType
arithmetic_kind of_numbers s t = Ok (vector_unless_numbers of_numbers s t)

-- && and ||: two truth values, or two vectors
abbrev pub logical_kind : ColType → ColType → Result ColType GraphCause
logical_kind ColType.Bool ColType.Bool = Ok ColType.Bool
logical_kind ColType.Vect ColType.Vect = Ok ColType.Vect
logical_kind s t = Err WrongType

-- == and !=: two truth values too
abbrev pub equality_kind : ColType → ColType → Result ColType GraphCause
equality_kind ColType.Bool ColType.Bool = Ok ColType.Bool
equality_kind s t = arithmetic_kind ColType.Bool s t

-- what an operator gives for the kinds of its sides
abbrev pub operator_kind : BinOp → ColType → ColType → Result ColType GraphCause
operator_kind BinOp.And s t = logical_kind s t
operator_kind BinOp.Or s t = logical_kind s t
operator_kind BinOp.Eq s t = equality_kind s t
operator_kind BinOp.Ne s t = equality_kind s t
operator_kind BinOp.Lt s t = arithmetic_kind ColType.Bool s t
operator_kind BinOp.Le s t = arithmetic_kind ColType.Bool s t
operator_kind BinOp.Gt s t = arithmetic_kind ColType.Bool s t
operator_kind BinOp.Ge s t = arithmetic_kind ColType.Bool s t
operator_kind o s t = arithmetic_kind ColType.Int s t

-- the unary minus: a number or a vector
abbrev pub negated_kind : ColType → Result ColType GraphCause
negated_kind ColType.Bool = Err WrongType
negated_kind t = Ok t

-- `!`: a truth value or a vector
abbrev pub inverted_kind : ColType → Result ColType GraphCause
inverted_kind ColType.Int = Err WrongType
inverted_kind t = Ok t

-- `c ? a : b`: a truth value, and two sides of one kind
abbrev pub chosen_kind : ColType → ColType → ColType → Result ColType GraphCause
chosen_kind ColType.Bool s t = if same_kind s t then Ok s else Err WrongType
chosen_kind c s t = Err WrongType

-- `v[e]`: the element at a number, or the elements that a vector marks
abbrev pub picked_kind : ColType → ColType → Result ColType GraphCause
picked_kind ColType.Vect ColType.Int = Ok ColType.Int
picked_kind ColType.Vect ColType.Vect = Ok ColType.Vect
picked_kind s t = Err WrongType

-- how many arguments there are
abbrev pub args_count : {C F : Type 0} → Trees C F → ℕ
args_count End = 0
args_count (More a rest) = args_count rest + 1

-- arguments of these kinds are what the function takes
abbrev pub result_kind : Shape → List ColType → Result ColType GraphCause
result_kind s ts = if same_kinds ts s.takes then Ok s.gives else Err WrongType

-- ---- expressions

-- over the kinds of columns and the shapes of functions
module _ {C F : Type 0} (column : C → Result ColType GraphCause) (function : F → Result Shape GraphCause) where
  abbrev mutual
    -- the kind of an expression, or the first refusal: of its parts from left to right, and then its own
    pub kind_by : Tree C F → Result ColType GraphCause
    kind_by (Lit z) = Ok ColType.Int
    kind_by (Truth b) = Ok ColType.Bool
    kind_by (Col c) = column c
    kind_by (Neg a) = kind_by a >>= negated_kind
    kind_by (Not a) = kind_by a >>= inverted_kind
    kind_by (Bin o a b) = kind_by a >>= λ s. kind_by b >>= λ t. operator_kind o s t
    kind_by (Cond c a b) = kind_by c >>= λ r. kind_by a >>= λ s. kind_by b >>= λ t. chosen_kind r s t
    kind_by (Pick v i) = kind_by v >>= λ s. kind_by i >>= λ t. picked_kind s t
    kind_by (Call f args) =
        function f >>= λ s. if nat_eq (args_count args) (length s.takes) then kinds_by args >>= result_kind s else Err WrongCount

    -- the kinds of the arguments of a call, or the first refusal
    pub kinds_by : Trees C F → Result (List ColType) GraphCause
    kinds_by End = Ok []
    kinds_by (More a rest) = kind_by a >>= λ t. kinds_by rest >>= λ ts. Ok (t ∷ ts)

-- the kind of an expression as it is written, over the visible columns and the caller's functions
abbrev pub kind_of : Scope → FunctionNames → NamedTree → Result ColType GraphCause
kind_of scope names e = kind_by (column_kind scope) (shape_of names) e
