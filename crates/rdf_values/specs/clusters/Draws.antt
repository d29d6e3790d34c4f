-- Numbers that are drawn one after the other, each once, into several lists; and unions of sets of numbers, which are rising lists.
use Rattle.std.specs.Prelude.{◌≡◌, ℕ, ◌==◌, List, nat_lt, if◌then◌else◌, All, IsPermutation, [], ◌∷◌}
use Rattle.std.specs.List.{count_by, sum_by, concat}
use Rattle.std.specs.List.Sorted.{IsStrictlyIncreasing}
use Rattle.rdf_values.specs.clusters.Cuts.{below}

-- ---- how often a number stands in lists

-- how often x stands in the list
abbrev pub times : ℕ → List ℕ → ℕ
times x xs = count_by (λ y. y == x) xs

-- 1 for a number below m, and 0 for another
abbrev pub once_below : ℕ → ℕ → ℕ
once_below x m = if nat_lt x m then 1 else 0

-- each list rises, and each number below m stands in all of them together once, and no other does
abbrev pub SharedOut : List (List ℕ) → ℕ → Type 0
SharedOut lists m = All IsStrictlyIncreasing lists × ((x : ℕ) → sum_by (times x) lists ≡ once_below x m)

-- ---- draws and unions

-- each list strictly rises, and the numbers below m stand in all lists together, each once, and no others
pub record DrawnBy (lists : List (List ℕ)) (m : ℕ) : Type 0 where
  pub rising : All IsStrictlyIncreasing lists
  pub each_once : IsPermutation (concat lists) (below m)

-- each set strictly rises, and so does their union, which has the members of all sets together, each once; so no two sets have a common member
pub record IsUnion (sets : List (List ℕ)) (all : List ℕ) : Type 0 where
  pub sets_rise : All IsStrictlyIncreasing sets
  pub rising : IsStrictlyIncreasing all
  pub each_once : IsPermutation (concat sets) all

-- ---- laws of unions

-- the union of sets is one
abbrev pub UnionIsOne : Type 0
UnionIsOne = (sets : List (List ℕ)) (a b : List ℕ) → IsUnion sets a → IsUnion sets b → a ≡ b

-- the union with the empty set is the set itself
abbrev pub NoneIsNeutral : Type 0
NoneIsNeutral = (a : List ℕ) → IsStrictlyIncreasing a → IsUnion (a ∷ [] ∷ []) a × IsUnion ([] ∷ a ∷ []) a

-- the order of two sets doesn't matter
abbrev pub OrderDoesNotMatter : Type 0
OrderDoesNotMatter = (a b all : List ℕ) → IsUnion (a ∷ b ∷ []) all → IsUnion (b ∷ a ∷ []) all

-- three sets are united from the left or from the right
abbrev pub UniteFromEitherSide : Type 0
UniteFromEitherSide =
    (a b c ab all : List ℕ)
    → IsUnion (a ∷ b ∷ []) ab → IsUnion (ab ∷ c ∷ []) all
    → (bc : List ℕ) × IsUnion (b ∷ c ∷ []) bc × IsUnion (a ∷ bc ∷ []) all

-- lists that the numbers below m were drawn into are sets whose union are those numbers
abbrev pub DrawnListsUnite : Type 0
DrawnListsUnite = (lists : List (List ℕ)) (m : ℕ) → DrawnBy lists m → IsUnion lists (below m)
