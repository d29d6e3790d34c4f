-- Texts with a byte between them are the first, and each other one behind that byte.
use Rattle.lemmas.proofs.{◌≡◌, ℕ, ℤ, List, [], ◌∷◌, ◌++◌, length, map, flat_map, refl, ap, sym, ◌∙◌, append_assoc, append-nil, join_with_byte, signed_decimal}
use Rattle.rdf_values.specs.{Column, value_of}
use Rattle.rdf_values.specs.declared.tables.value.Cell.{Cell}
use Rattle.snapshot_text.specs.{cell_field, column_field, record_text}

pub joined_behind : {A : Type 0} (c : ℕ) (f : A → List ℕ) (x : A) (xs : List A) → join_with_byte c (map f (x ∷ xs)) ≡ f x ++ flat_map (λ y. c ∷ f y) xs
joined_behind c f x [] = sym (append-nil (f x))
joined_behind c f x (y ∷ ys) = ap (λ t. f x ++ c ∷ t) (joined_behind c f y ys)

-- a text that grows twice
pub grown : (old mid new a b whole : List ℕ) → mid ≡ old ++ a → new ≡ mid ++ b → whole ≡ a ++ b → new ≡ old ++ whole
grown old mid new a b whole m n w = n ∙ ap (λ t. t ++ b) m ∙ append_assoc old a b ∙ ap (λ t. old ++ t) (sym w)

-- the text of several items, the first and then the others
pub grown_by : {A : Type 0} (c : ℕ) (f : A → List ℕ) (old mid new : List ℕ) (x : A) (xs all : List A) → all ≡ x ∷ xs → mid ≡ old ++ f x → new ≡ mid ++ flat_map (λ y. c ∷ f y) xs → new ≡ old ++ join_with_byte c (map f all)
grown_by c f old mid new x xs all e m n = grown old mid new (f x) (flat_map (λ y. c ∷ f y) xs) (join_with_byte c (map f all)) m n (ap (λ t. join_with_byte c (map f t)) e ∙ joined_behind c f x xs)

pub joined_numbers : (z : ℤ) (zs : List ℤ) → join_with_byte 59 (map signed_decimal (z ∷ zs)) ≡ signed_decimal z ++ flat_map (λ y. 59 ∷ signed_decimal y) zs
joined_numbers z zs = joined_behind 59 signed_decimal z zs

pub joined_columns : (c : Column) (cs : List Column) → join_with_byte 44 (map column_field (c ∷ cs)) ≡ column_field c ++ flat_map (λ d. 44 ∷ column_field d) cs
joined_columns c cs = joined_behind 44 column_field c cs

cells_behind : (x : Cell) (xs : List Cell) → join_with_byte 44 (map cell_field (map value_of (x ∷ xs))) ≡ cell_field (value_of x) ++ flat_map (λ y. 44 ∷ cell_field (value_of y)) xs
cells_behind x [] = sym (append-nil (cell_field (value_of x)))
cells_behind x (y ∷ ys) = ap (λ t. cell_field (value_of x) ++ 44 ∷ t) (cells_behind y ys)

-- the text of two cells or more
pub cells_grown : (old mid new : List ℕ) (x : Cell) (xs all : List Cell) → all ≡ x ∷ xs → (length xs ≡ 0 → ⊥) → mid ≡ old ++ cell_field (value_of x) → new ≡ mid ++ flat_map (λ y. 44 ∷ cell_field (value_of y)) xs
    → new ≡ old ++ record_text (map value_of all)
cells_grown old mid new x [] all e l m n = absurd (l refl)
cells_grown old mid new x (y ∷ ys) all e l m n =
    grown old mid new (cell_field (value_of x)) (flat_map (λ z. 44 ∷ cell_field (value_of z)) (y ∷ ys)) (record_text (map value_of all)) m n
    (ap (λ t. record_text (map value_of t)) e ∙ cells_behind x (y ∷ ys))
