-- Lists that are made of others, one more each time.
use Rattle.lemmas.proofs.{◌≡◌, ◌+◌, ◌<◌, ℕ, zero, suc, List, [], ◌∷◌, ◌++◌, length, get_or, map, take, refl, ap, ap₂, ◌∙◌, arith}
use Rattle.rdf_values.specs.{ColType, Column, column_kind, kind_or_int, Scope}
use Rattle.snapshot_plan.specs.{column_at}

next_suc : {A B : Type 0} (f : A → B) (xs : List A) (i : ℕ) (d : A) → i < length xs → map f (take i xs) ++ f (get_or xs i d) ∷ [] ≡ map f (take (suc i) xs)
next_suc f [] i d lt = absurd (omega (arith, lt))
next_suc f (x ∷ xs) zero d lt = refl
next_suc f (x ∷ xs) (suc i) d lt = ap (λ l. f x ∷ l) (next_suc f xs i d (omega (arith, lt)))

-- one more of what is made of each element
pub next_mapped : {A B : Type 0} (f : A → B) (xs : List A) (i : ℕ) (x : A) → i < length xs → x ≡ get_or xs i x → map f (take i xs) ++ f x ∷ [] ≡ map f (take (i + 1) xs)
next_mapped f xs i x lt is =
    ap (λ y. map f (take i xs) ++ f y ∷ []) is ∙ next_suc f xs i x lt ∙ (let e : suc i ≡ i + 1 = omega arith in ap (λ k. map f (take k xs)) e)

-- a column with its kind behind those before it
pub next_column : (scope : Scope) (xs : List (List ℕ)) (i : ℕ) (item name : List ℕ) (kind : ColType) (header more : List Column) → i < length xs → item ≡ get_or xs i item → name ≡ item → kind ≡ kind_or_int (column_kind scope item)
    → header ≡ map (column_at scope) (take i xs) → more ≡ header ++ record { name = name; kind = kind } ∷ [] → more ≡ map (column_at scope) (take (i + 1) xs)
next_column scope xs i item name kind header more lt is named its so_far then =
    then ∙ ap (λ l. l ++ record { name = name; kind = kind } ∷ []) so_far ∙ ap₂ (λ (n : List ℕ) (k : ColType). map (column_at scope) (take i xs) ++ record { name = n; kind = k } ∷ []) named its
    ∙ next_mapped (column_at scope) xs i item lt is
