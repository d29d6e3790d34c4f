-- How the entries are cut into clusters.
use Rattle.std.specs.Prelude.{◌≡◌, ◌<◌, ℕ, zero, suc, ◌+◌, ◌*◌, min, max, Bool, ◌||◌, List, [], ◌∷◌, ◌++◌, map, if◌then◌else◌, nat_eq, All}
use Rattle.std.specs.List.{list_any}
use Rattle.std.specs.List.Sorted.{IsStrictlyIncreasing}
use Rattle.std.specs.Int.{div_ceil}
use Rattle.rdf_values.specs.declared.clusters.span.Span.{Span}

-- the numbers below n
abbrev pub below : ℕ → List ℕ
below zero = []
below (suc n) = below n ++ n ∷ []

-- marks: entries of a table, each above the one before
pub record AreMarks (marks : List ℕ) : Type 0 where
  pub rising : IsStrictlyIncreasing marks
  pub few : All (λ m. m < 1000000) marks

-- a cluster begins at entry e, where the one before it began at lo: at a mark, or so many entries after lo
abbrev pub begins_at : ℕ → List ℕ → ℕ → ℕ → Bool
begins_at size marks lo e = nat_eq e (lo + size) || list_any (nat_eq e) marks

-- the clusters from the one that began at lo on, where r entries are left from e on
abbrev pub cut_from : ℕ → List ℕ → ℕ → ℕ → ℕ → List Span
cut_from size marks lo e zero = record { lo = lo; hi = e } ∷ []
cut_from size marks lo e (suc r) =
    if begins_at size marks lo e then record { lo = lo; hi = e } ∷ cut_from size marks e (suc e) r else cut_from size marks lo (suc e) r

-- n entries cut at the marks, and into clusters of at most this size between them
abbrev pub cut : ℕ → ℕ → List ℕ → List Span
cut zero size marks = []
cut (suc n) size marks = cut_from size marks 0 1 n

-- n entries cut into clusters of this size, of which the last may be smaller: the cut without marks
abbrev pub even_cut : ℕ → ℕ → List Span
even_cut n size = map (λ c. record { lo = c * size; hi = min ((c + 1) * size) n }) (below (div_ceil n size))

-- the clusters follow one another from the one entry to the other, and none is empty
abbrev pub Lead : ℕ → ℕ → List Span → Type 0
Lead lo hi [] = lo ≡ hi
Lead lo hi (s ∷ ss) = (s.lo ≡ lo) × (lo < s.hi) × Lead s.hi hi ss

-- after how many clusters a partial result is noted: every k-th one, and at most 1,000 in all
abbrev pub stride : ℕ → ℕ → ℕ
stride clusters k = max k (div_ceil clusters 1000)
