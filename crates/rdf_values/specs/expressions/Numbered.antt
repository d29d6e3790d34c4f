-- Expressions with their columns and functions numbered.
use Rattle.std.specs.Prelude.{ℕ, suc, List, [], ◌∷◌, length, map, if◌then◌else◌, codes}
use Rattle.rdf_values.specs.scripts.Names.{same}
use Rattle.rdf_values.specs.expressions.Expressions.{Tree, Trees, NamedTree, NumTree, Lit, Truth, Col, Neg, Not, Bin, Cond, Pick, Call, End, More}
use Rattle.rdf_values.specs.expressions.Kinds.{Scope, FunctionNames}
use Rattle.rdf_values.specs.declared.tables.value.ColType.{ColType}
use Rattle.rdf_values.specs.declared.expressions.num_expr.Callee.{Callee}

-- with other names for columns and functions
module _ {C D F G : Type 0} (column : C → D) (function : F → G) where
  abbrev mutual
    -- the expression under the other names
    pub renamed : Tree C F → Tree D G
    renamed (Lit z) = Lit z
    renamed (Truth b) = Truth b
    renamed (Col c) = Col (column c)
    renamed (Neg a) = Neg (renamed a)
    renamed (Not a) = Not (renamed a)
    renamed (Bin o a b) = Bin o (renamed a) (renamed b)
    renamed (Cond c a b) = Cond (renamed c) (renamed a) (renamed b)
    renamed (Pick v i) = Pick (renamed v) (renamed i)
    renamed (Call f args) = Call (function f) (all_renamed args)

    -- the arguments of a call under the other names
    pub all_renamed : Trees C F → Trees D G
    all_renamed End = End
    all_renamed (More a rest) = More (renamed a) (all_renamed rest)

-- the built-in functions by their names
abbrev pub built_in : List (List ℕ × Callee)
built_in =
    (codes "Sum", Callee.Sum) ∷ (codes "Min", Callee.Min) ∷ (codes "Max", Callee.Max) ∷ (codes "Size", Callee.Size) ∷ (codes "Any", Callee.Any)
    ∷ (codes "All", Callee.All) ∷ (codes "At", Callee.At) ∷ (codes "abs", Callee.Abs) ∷ []

-- the first callee of that name, or else
abbrev pub callee_in : List (List ℕ × Callee) → List ℕ → Callee → Callee
callee_in [] name other = other
callee_in (c ∷ cs) name other = if same c.0 name then c.1 else callee_in cs name other

-- the functions of the list, numbered from n on
abbrev pub given_from : ℕ → FunctionNames → List (List ℕ × Callee)
given_from n [] = []
given_from n (f ∷ fs) = (f.name, Callee.Given n) ∷ given_from (suc n) fs

-- what a call of that name calls: a built-in function, or the one at its place in the list
abbrev pub callee : FunctionNames → List ℕ → Callee
callee fns name = callee_in built_in name (callee_in (given_from 0 fns) name (Callee.Given (length fns)))

-- a visible column with its kind and its number
pub record ScopeColumn : Type 0 where
  pub name : List ℕ
  pub kind : ColType
  pub number : ℕ

-- the kinds of the columns by their names
abbrev pub kinds_in : List ScopeColumn → Scope
kinds_in columns = map (λ (c : ScopeColumn). (c.name, c.kind)) columns

-- the number of the column of that name; 0 where there is none
abbrev pub number_in : List ScopeColumn → List ℕ → ℕ
number_in [] name = 0
number_in (c ∷ cs) name = if same c.name name then c.number else number_in cs name

-- the expression with each column by its number in the scope, and each function that isn't built in by its place in the names
abbrev pub numbered : List ScopeColumn → FunctionNames → NamedTree → NumTree
numbered scope names e = renamed (number_in scope) (callee names) e
