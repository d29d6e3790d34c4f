-- The rows of the cells of a plane.
use Rattle.lemmas.proofs.{◌≡◌, ℕ, ℤ, zero, suc, ◌+◌, ◌-◌, ◌<◌, ◌≤◌, append-nil, List, [], ◌∷◌, ◌++◌, map, take, drop, refl, sym, ap, ◌∙◌, arith}
use Rattle.rdf_values.specs.results.Fold.{Cell}
use Rattle.histograms.specs.{cell_seen, CellSum}
use Rattle.result_text.specs.{plane_at, planes_on}
use Rattle.result_text.proofs.PassLines.{put_next}
use Rattle.merged_text.specs.{rows_of}

pub map-take : {A B : Type 0} (f : A → B) (n : ℕ) (xs : List A) → map f (take n xs) ≡ take n (map f xs)
map-take f zero xs = refl
map-take f (suc n) [] = refl
map-take f (suc n) (x ∷ xs) = ap (λ l. f x ∷ l) (map-take f n xs)

pub map-drop : {A B : Type 0} (f : A → B) (n : ℕ) (xs : List A) → map f (drop n xs) ≡ drop n (map f xs)
map-drop f zero xs = refl
map-drop f (suc n) [] = refl
map-drop f (suc n) (x ∷ xs) = map-drop f n xs

-- one row is put
pub row_next : (text now all : List ℕ) (xs ys : List ℤ) (width n i : ℕ) (left row rest : List CellSum) → i < n → text ++ planes_on xs ys i (rows_of width (n - i) (map cell_seen left)) ≡ all
    → row ≡ take width left → rest ≡ drop width left → now ≡ text ++ plane_at xs ys i (map cell_seen row) → now ++ planes_on xs ys (i + 1) (rows_of width (n - (i + 1)) (map cell_seen rest)) ≡ all
row_next text now all xs ys width n i left row rest lt h row_is rest_is is =
    let more : n - i ≡ suc (n - (i + 1)) = omega arith in
    put_next all text now (plane_at xs ys i (map cell_seen row)) (planes_on xs ys (i + 1) (rows_of width (n - (i + 1)) (map cell_seen rest))) (planes_on xs ys i (rows_of width (n - i) (map cell_seen left))) h
    (ap (λ k. planes_on xs ys i (rows_of width k (map cell_seen left))) more
    ∙ ap (λ cells. plane_at xs ys i cells ++ planes_on xs ys (i + 1) (rows_of width (n - (i + 1)) (drop width (map cell_seen left)))) (sym (map-take cell_seen width left) ∙ ap (map cell_seen) (sym row_is))
    ∙ ap (λ cells. plane_at xs ys i (map cell_seen row) ++ planes_on xs ys (i + 1) (rows_of width (n - (i + 1)) cells)) (sym (map-drop cell_seen width left) ∙ ap (map cell_seen) (sym rest_is)))
    is

-- no row is left
pub rows_end : (text all : List ℕ) (xs ys : List ℤ) (width n i : ℕ) (cells : List Cell) → n ≤ i → text ++ planes_on xs ys i (rows_of width (n - i) cells) ≡ all → text ≡ all
rows_end text all xs ys width n i cells le h =
    let none : n - i ≡ 0 = omega arith in
    sym (append-nil text) ∙ sym (ap (λ k. text ++ planes_on xs ys i (rows_of width k cells)) none) ∙ h

-- all rows are left
pub rows_begin : (text : List ℕ) (xs ys : List ℤ) (width n : ℕ) (cells : List Cell) → text ++ planes_on xs ys 0 (rows_of width (n - 0) cells) ≡ text ++ planes_on xs ys 0 (rows_of width n cells)
rows_begin text xs ys width n cells = let same : n - 0 ≡ n = omega arith in ap (λ k. text ++ planes_on xs ys 0 (rows_of width k cells)) same
