-- The functions that a caller hands in, by their names, their numbers of arguments and their answers, and lists of their names.
use Rattle.std.specs.Prelude.{◌≡◌, ◌⊎◌, ℕ, List, codes, ◌≢◌, ◌≤◌, ◌<◌, [], ◌∷◌, length, All, HoldsAt, ℤ, Option, map}
use Rattle.rdf_values.specs.declared.expressions.fn_names.FnName.{FnName}

abbrev pub IsBuiltIn : List ℕ → Type 0
IsBuiltIn name =
    (name ≡ codes "Sum") ⊎ (name ≡ codes "Min") ⊎ (name ≡ codes "Max") ⊎ (name ≡ codes "Size")
    ⊎ (name ≡ codes "Any") ⊎ (name ≡ codes "All") ⊎ (name ≡ codes "At") ⊎ (name ≡ codes "abs")

-- no function of the list has the name
abbrev pub LacksName : List ℕ → List FnName → Type 0
LacksName name names = All (λ f. f.name ≢ name) names

-- one of them has it
abbrev pub HasName : List ℕ → List FnName → Type 0
HasName name names = (k : ℕ) × (k < length names) × HoldsAt (λ f. f.name ≡ name) names k

-- no two functions of the list have one name
abbrev pub HaveDistinctNames : List FnName → Type 0
HaveDistinctNames [] = Unit {0}
HaveDistinctNames (f ∷ fs) = LacksName f.name fs × HaveDistinctNames fs

pub record AreFnNames (names : List FnName) : Type 0 where
  pub few : length names ≤ 64
  pub arities : All (λ f. f.arity ≤ 8) names
  pub distinct : HaveDistinctNames names
  pub not_built_in : All (λ f. IsBuiltIn f.name → ⊥) names

-- a function: its name, its number of arguments, and its answer to them
pub record Function : Type 0 where
  pub name : List ℕ
  pub arity : ℕ
  pub answer : List ℤ → Option ℤ

-- a function by its name and its number of arguments
abbrev pub fn_name : Function → FnName
fn_name f = record { name = f.name; arity = f.arity }

-- the functions by their names and numbers of arguments, in order
abbrev pub fn_names : List Function → List FnName
fn_names fns = map fn_name fns
