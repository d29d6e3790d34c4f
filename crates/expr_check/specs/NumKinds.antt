-- Kinds of numbered expressions.
use Rattle.std.specs.Prelude.{◌≡◌, ℕ, ◌<◌, Bool, true, false, not, ◌&&◌, List, [], ◌∷◌, ◌++◌, map, filter, length, replicate, if◌then◌else◌, nat_eq, All, Option, Some, None, MatchOption, Result, Ok, Err, slice_get}
use Rattle.std.specs.List.{list_any}
use Rattle.rdf_values.specs.{args_count, Bin, Call, Callee, Col, ColType, columns_in, Cond, End, FnName, FunctionNames, GraphCause, kind_by, Lit, More, Neg, Not, NumTree, Pick, Shape, shape, Tree, Trees}
use Rattle.rdf_values.specs.expressions.Expressions.{Truth}
use Rattle.rdf_values.specs.declared.scripts.script_cause.GraphCause.TheVariants.{UnknownColumn, UnknownFunction}

-- the kind of the column of that number
abbrev pub number_kind : List (ℕ × ColType) → ℕ → Result ColType GraphCause
number_kind [] number = Err UnknownColumn
number_kind (c ∷ cs) number = if nat_eq c.0 number then Ok c.1 else number_kind cs number

-- what a function of the list takes and gives
abbrev pub given_shape : Option FnName → Result Shape GraphCause
given_shape None = Err UnknownFunction
given_shape (Some f) = Ok (shape (replicate f.arity ColType.Int) ColType.Int)

-- what a call takes and gives
abbrev pub callee_shape : FunctionNames → Callee → Result Shape GraphCause
callee_shape names Callee.Sum = Ok (shape (ColType.Vect ∷ []) ColType.Int)
callee_shape names Callee.Min = Ok (shape (ColType.Vect ∷ []) ColType.Int)
callee_shape names Callee.Max = Ok (shape (ColType.Vect ∷ []) ColType.Int)
callee_shape names Callee.Size = Ok (shape (ColType.Vect ∷ []) ColType.Int)
callee_shape names Callee.Any = Ok (shape (ColType.Vect ∷ []) ColType.Bool)
callee_shape names Callee.All = Ok (shape (ColType.Vect ∷ []) ColType.Bool)
callee_shape names Callee.At = Ok (shape (ColType.Vect ∷ ColType.Int ∷ []) ColType.Int)
callee_shape names Callee.Abs = Ok (shape (ColType.Int ∷ []) ColType.Int)
callee_shape names (Callee.Given i) = given_shape (slice_get names i)

-- the kind of a numbered expression, by the kinds of its columns and the functions that it may call
abbrev pub num_kind : List (ℕ × ColType) → FunctionNames → NumTree → Result ColType GraphCause
num_kind kinds names e = kind_by (number_kind kinds) (callee_shape names) e

-- the numbers of a list, each once, in the order of their first places
abbrev pub distinct : List ℕ → List ℕ
distinct [] = []
distinct (x ∷ xs) = x ∷ filter (λ y. not (nat_eq x y)) (distinct xs)

-- the list with a number at its end, unless it is there
abbrev pub with_new : List ℕ → ℕ → List ℕ
with_new xs x = if list_any (nat_eq x) xs then xs else xs ++ x ∷ []

-- an expression with its columns numbered, their kinds, and its own kind
pub record CheckedExpr : Type 0 where
  pub tree : NumTree
  pub kinds : List (ℕ × ColType)
  pub kind : ColType

abbrev pub checked_expr : NumTree → List (ℕ × ColType) → ColType → CheckedExpr
checked_expr tree kinds kind = record { tree = tree; kinds = kinds; kind = kind }

-- the expression has that kind by the kinds of its columns, of which each is given once, where it stands first
pub record IsWellTyped (names : FunctionNames) (e : CheckedExpr) : Type 0 where
  pub typed : num_kind e.kinds names e.tree ≡ Ok e.kind
  pub columns : map (λ (c : ℕ × ColType). c.0) e.kinds ≡ distinct (columns_in e.tree)

-- it is well typed by some list of functions
abbrev pub IsTyped : CheckedExpr → Type 0
IsTyped e = (names : FunctionNames) × IsWellTyped names e

-- the callee is built in, or at a place of the list
abbrev pub IsCallable : FunctionNames → Callee → Type 0
IsCallable names (Callee.Given i) = i < length names
IsCallable names f = Unit {0}

-- a call of the list is at a place of the list, with as many arguments as its function takes
abbrev pub IsCallOf : FunctionNames → Callee → ℕ → Type 0
IsCallOf names (Callee.Given i) count = MatchOption (slice_get names i) ⊥ (λ f. f.arity ≡ count)
IsCallOf names f count = Unit {0}

-- each call of the list is so
abbrev mutual
  pub CallsFit : FunctionNames → NumTree → Type 0
  CallsFit names (Lit z) = Unit {0}
  CallsFit names (Truth b) = Unit {0}
  CallsFit names (Col c) = Unit {0}
  CallsFit names (Neg a) = CallsFit names a
  CallsFit names (Not a) = CallsFit names a
  CallsFit names (Bin o a b) = CallsFit names a × CallsFit names b
  CallsFit names (Cond c a b) = CallsFit names c × CallsFit names a × CallsFit names b
  CallsFit names (Pick v i) = CallsFit names v × CallsFit names i
  CallsFit names (Call f args) = IsCallOf names f (args_count args) × AllCallsFit names args

  pub AllCallsFit : FunctionNames → Trees ℕ Callee → Type 0
  AllCallsFit names End = Unit {0}
  AllCallsFit names (More a rest) = CallsFit names a × AllCallsFit names rest

abbrev pub is_vector : ColType → Bool
is_vector ColType.Vect = true
is_vector k = false

abbrev pub gives_vector : Result ColType GraphCause → Bool
gives_vector (Ok k) = is_vector k
gives_vector (Err e) = false

-- the expression and all that stands in it
abbrev mutual
  pub parts : {C F : Type 0} → Tree C F → List (Tree C F)
  parts (Lit z) = Lit z ∷ []
  parts (Truth b) = Truth b ∷ []
  parts (Col c) = Col c ∷ []
  parts (Neg a) = Neg a ∷ parts a
  parts (Not a) = Not a ∷ parts a
  parts (Bin o a b) = Bin o a b ∷ (parts a ++ parts b)
  parts (Cond c a b) = Cond c a b ∷ (parts c ++ parts a ++ parts b)
  parts (Pick v i) = Pick v i ∷ (parts v ++ parts i)
  parts (Call f args) = Call f args ∷ parts_of_all args

  pub parts_of_all : {C F : Type 0} → Trees C F → List (Tree C F)
  parts_of_all End = []
  parts_of_all (More a rest) = parts a ++ parts_of_all rest

-- no part of the expression is a vector
abbrev pub HasNoVector : List (ℕ × ColType) → FunctionNames → NumTree → Type 0
HasNoVector kinds names e = All (λ p. gives_vector (num_kind kinds names p) ≡ false) (parts e)

-- the function takes no vector
abbrev pub takes_no_vector : Callee → Bool
takes_no_vector Callee.Abs = true
takes_no_vector (Callee.Given i) = true
takes_no_vector f = false

-- no column is a vector, and nothing picks from one or calls a function of one
module _ (kinds : List (ℕ × ColType)) where
  abbrev mutual
    pub is_plain : NumTree → Bool
    is_plain (Lit z) = true
    is_plain (Truth b) = true
    is_plain (Col c) = not (gives_vector (number_kind kinds c))
    is_plain (Neg a) = is_plain a
    is_plain (Not a) = is_plain a
    is_plain (Bin o a b) = is_plain a && is_plain b
    is_plain (Cond c a b) = is_plain c && is_plain a && is_plain b
    is_plain (Pick v i) = false
    is_plain (Call f args) = takes_no_vector f && all_are_plain args

    pub all_are_plain : Trees ℕ Callee → Bool
    all_are_plain End = true
    all_are_plain (More a rest) = is_plain a && all_are_plain rest
