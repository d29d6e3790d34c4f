-- Columns that can be read, with their kinds and numbers.
use Rattle.std.specs.Prelude.{◌≡◌, ◌≢◌, ℕ, List, map, All, Result, IsOk, Bool, Ok, Err}
use Rattle.rdf_values.specs.{ColType, GraphCause, ScopeColumn, ◌>>=◌, same_kinds}
use Rattle.expr_check.specs.declared.refusal.CheckRefusal.{CheckRefusal}
use Rattle.expr_check.specs.declared.refusal.CheckRefusal.TheVariants.{UnknownColumn, UnknownFunction, WrongType, WrongCount, Memory}

-- no column has the name
abbrev pub LacksColumn : List ℕ → List ScopeColumn → Type 0
LacksColumn name columns = All (λ (c : ScopeColumn). c.name ≢ name) columns

-- each column of that number has that kind
abbrev pub NumberHasKind : ℕ → ColType → List ScopeColumn → Type 0
NumberHasKind number kind columns = All (λ (c : ScopeColumn). c.number ≡ number → c.kind ≡ kind) columns

-- columns of one number have one kind
abbrev pub NumbersHaveKinds : List ScopeColumn → Type 0
NumbersHaveKinds columns = All (λ (c : ScopeColumn). NumberHasKind c.number c.kind columns) columns

-- the columns by their numbers
abbrev pub numbers_in : List ScopeColumn → List (ℕ × ColType)
numbers_in columns = map (λ (c : ScopeColumn). (c.number, c.kind)) columns

-- each column that is known by its name has the kind of its number
abbrev pub HaveOneKind : (List ℕ → Result ColType GraphCause) → (List ℕ → ℕ) → (ℕ → Result ColType GraphCause) → Type 0
HaveOneKind kind number kind_at = (name : List ℕ) → IsOk (kind name) → kind name ≡ kind_at (number name)

-- ---- what a check answers

-- the refusal is the one that is wanted, or want of memory
abbrev pub RefusedAs : {A : Type 0} → CheckRefusal → Result A GraphCause → Type 0
RefusedAs UnknownColumn wanted = wanted ≡ Err GraphCause.UnknownColumn
RefusedAs UnknownFunction wanted = wanted ≡ Err GraphCause.UnknownFunction
RefusedAs WrongType wanted = wanted ≡ Err GraphCause.WrongType
RefusedAs WrongCount wanted = wanted ≡ Err GraphCause.WrongCount
RefusedAs Memory wanted = Unit {0}

-- the answer is the one that is wanted, or want of memory
abbrev pub Answers : {A : Type 0} → Result A GraphCause → Result A CheckRefusal → Type 0
Answers wanted (Ok a) = wanted ≡ Ok a
Answers wanted (Err e) = RefusedAs e wanted

-- whether the arguments are of the kinds that a function takes
abbrev pub arguments_fit : Result (List ColType) GraphCause → List ColType → Result Bool GraphCause
arguments_fit kinds takes = kinds >>= λ ts. Ok (same_kinds ts takes)
