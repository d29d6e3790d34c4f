-- Numbers of 64 bits: in values, in expressions, in statements, and in the answers of functions.
use Rattle.std.specs.Prelude.{◌≡◌, ◌≤◌, ◌<◌, ◌^◌, ⊤, ℤ, pos, negsuc, List, [], ◌∷◌, length, All, Some}
use Rattle.rdf_values.specs.expressions.Functions.{Function}
use Rattle.rdf_values.specs.expressions.Expressions.{Tree, Trees, NamedTree, Lit, Truth, Col, Neg, Not, Bin, Cond, Pick, Call, End, More}
use Rattle.rdf_values.specs.declared.tables.value.Value.{Value}
use Rattle.rdf_values.specs.declared.scripts.statement.VaryValues.{VaryValues}
use Rattle.rdf_values.specs.declared.scripts.statement.VaryValues.TheVariants.{Lists, Vector}
use Rattle.rdf_values.specs.declared.scripts.statement.Statement.{Statement}
use Rattle.rdf_values.specs.declared.scripts.statement.Statement.TheVariants.{Define, Redefine, Filter, Vary}

-- a number has 64 bits
abbrev pub Has64Bits : ℤ → Type 0
Has64Bits (pos n) = n < 2 ^ 63
Has64Bits (negsuc n) = n < 2 ^ 63

-- the numbers of a value have 64 bits, and a vector has at most 4,096
abbrev pub IsBounded : Value → Type 0
IsBounded (Value.Int n) = Has64Bits n
IsBounded (Value.Bool b) = ⊤
IsBounded (Value.Vect ns) = (length ns ≤ 4096) × All Has64Bits ns

-- each value of a row is so
abbrev pub AreBounded : List Value → Type 0
AreBounded [] = ⊤
AreBounded (x ∷ xs) = IsBounded x × AreBounded xs

-- a function answers to numbers of 64 bits with such a number, if it answers
abbrev pub AnswersIn64Bits : Function → Type 0
AnswersIn64Bits f = (xs : List ℤ) (z : ℤ) → All Has64Bits xs → f.answer xs ≡ Some z → Has64Bits z

-- each function does
abbrev pub AnswerIn64Bits : List Function → Type 0
AnswerIn64Bits [] = ⊤
AnswerIn64Bits (f ∷ fs) = AnswersIn64Bits f × AnswerIn64Bits fs

-- ---- expressions

module _ {C F : Type 0} where
  abbrev mutual
    -- each number that stands in the expression has 64 bits
    pub HasWords : Tree C F → Type 0
    HasWords (Lit z) = Has64Bits z
    HasWords (Truth b) = ⊤
    HasWords (Col c) = ⊤
    HasWords (Neg a) = HasWords a
    HasWords (Not a) = HasWords a
    HasWords (Bin op a b) = HasWords a × HasWords b
    HasWords (Cond c a b) = HasWords c × HasWords a × HasWords b
    HasWords (Pick v i) = HasWords v × HasWords i
    HasWords (Call f args) = HaveWords args

    -- each number that stands in the arguments of a call has 64 bits
    pub HaveWords : Trees C F → Type 0
    HaveWords End = ⊤
    HaveWords (More a rest) = HasWords a × HaveWords rest

-- each of some expressions is so
abbrev pub ListHasWords : List NamedTree → Type 0
ListHasWords [] = ⊤
ListHasWords (e ∷ es) = HasWords e × ListHasWords es

-- each of some lists of expressions is so
abbrev pub ListsHaveWords : List (List NamedTree) → Type 0
ListsHaveWords [] = ⊤
ListsHaveWords (es ∷ lists) = ListHasWords es × ListsHaveWords lists

-- the expressions of a Vary are so
abbrev pub ValuesHaveWords : VaryValues → Type 0
ValuesHaveWords (Lists lists) = ListsHaveWords lists
ValuesHaveWords (Vector e) = HasWords e

-- the expressions of a statement are so
abbrev pub StatementHasWords : Statement → Type 0
StatementHasWords (Define node parent column expr) = HasWords expr
StatementHasWords (Redefine node parent column expr) = HasWords expr
StatementHasWords (Filter node parent expr label) = HasWords expr
StatementHasWords (Vary node parent columns values tags vary) = ValuesHaveWords values
StatementHasWords s = ⊤

-- the expressions of some statements are so
abbrev pub StatementsHaveWords : List Statement → Type 0
StatementsHaveWords [] = ⊤
StatementsHaveWords (s ∷ ss) = StatementHasWords s × StatementsHaveWords ss
