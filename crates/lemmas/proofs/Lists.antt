-- Lists that are mapped.
use Rattle.std.proofs.Common.{[], ◌++◌, ◌∷◌, ◌≡◌, List, ap, length, map, refl, suc, ◌+◌, ◌-◌, ◌∙◌, ◌≤◌, Some, arith, drop, length-drop, take, zero, ℕ, slice_get, slice_range, ◌<◌, ◌⊎◌, inl, inr, slice_set}
use Rattle.std.proofs.lemmas.List.{drop-drop, length-map, length-take, length-take-le, map-append, take_more}
use Rattle.std.proofs.lemmas.Option.{get_or_from_slice_get, slice_get_within}
use Rattle.std.specs.List.{AllByRecursion}

pub map_next : {A B : Type 0} (f : A → B) (xs : List A) (x : A) → map f (xs ++ x ∷ []) ≡ map f xs ++ f x ∷ []
map_next f xs x = map-append f xs (x ∷ [])

pub map_length : {A B : Type 0} (f : A → B) (xs : List A) → length (map f xs) ≡ length xs
map_length f xs = length-map xs f

-- ---- the front and the rest of a list

pub take_next : {A : Type 0} (xs : List A) (i : ℕ) (x : A) → slice_get xs i ≡ Some x → take (i + 1) xs ≡ take i xs ++ x ∷ []
take_next xs i x s = take_more xs i x (slice_get_within xs i x s) ∙ ap (λ y. take i xs ++ y ∷ []) (get_or_from_slice_get xs i x x s)

pub take_at_most : {A : Type 0} (n : ℕ) (xs : List A) → length (take n xs) ≤ n
take_at_most n xs = omega (arith, length-take n xs)

pub take_no_longer : {A : Type 0} (n : ℕ) (xs : List A) → length (take n xs) ≤ length xs
take_no_longer n xs = omega (arith, length-take n xs)

pub drop_plus : {A : Type 0} (m n : ℕ) (xs : List A) → drop n (drop m xs) ≡ drop (m + n) xs
drop_plus m n xs = drop-drop n m xs

pub range_length : {A : Type 0} (rows : List A) (lo hi : ℕ) → lo ≤ hi → hi ≤ length rows → length (slice_range rows lo hi) ≡ hi - lo
range_length rows lo hi a b = length-take-le (hi - lo) (drop lo rows) (omega (arith, length-drop lo rows))

-- ---- what stands at a place of a list

pub something_at : {A : Type 0} (xs : List A) (i : ℕ) → i < length xs → (x : A) × (slice_get xs i ≡ Some x)
something_at [] i lt = absurd (omega arith)
something_at (x ∷ xs) zero lt = (x, refl)
something_at (x ∷ xs) (suc i) lt = something_at xs i (omega arith)

pub kept_at : {A : Type 0} (xs ys : List A) (k : ℕ) (x : A) → slice_get xs k ≡ Some x → slice_get (xs ++ ys) k ≡ Some x
kept_at [] ys k x h = cc h
kept_at (y ∷ xs) ys zero x h = h
kept_at (y ∷ xs) ys (suc k) x h = kept_at xs ys k x h

pub last_at : {A : Type 0} (xs : List A) (y : A) → slice_get (xs ++ y ∷ []) (length xs) ≡ Some y
last_at [] y = refl
last_at (z ∷ zs) y = last_at zs y

pub before_or_last : {A : Type 0} (xs : List A) (y : A) (p : ℕ) (a : A) → slice_get (xs ++ y ∷ []) p ≡ Some a → (slice_get xs p ≡ Some a) ⊎ ((p ≡ length xs) × (y ≡ a))
before_or_last [] y zero a h = inr (refl, cc h)
before_or_last [] y (suc p) a h = cc h
before_or_last (x ∷ xs) y zero a h = inl h
before_or_last (x ∷ xs) y (suc p) a h = go (before_or_last xs y p a h)
  where
    go : (slice_get xs p ≡ Some a) ⊎ ((p ≡ length xs) × (y ≡ a)) → (slice_get xs p ≡ Some a) ⊎ ((suc p ≡ length (x ∷ xs)) × (y ≡ a))
    go (inl k) = inl k
    go (inr k) = inr (ap suc k.0, k.1)

pub mapped_at : {A B : Type 0} (f : A → B) (xs : List A) (k : ℕ) (x : A) → slice_get xs k ≡ Some x → slice_get (map f xs) k ≡ Some (f x)
mapped_at f [] k x h = cc h
mapped_at f (y ∷ xs) zero x h = let e : y ≡ x = cc h in ap (λ z. Some (f z)) e
mapped_at f (y ∷ xs) (suc k) x h = mapped_at f xs k x h

pub set_at : {A : Type 0} (xs : List A) (k : ℕ) (y : A) → k < length xs → slice_get (slice_set xs k y) k ≡ Some y
set_at [] k y h = absurd (omega (arith, h))
set_at (z ∷ xs) zero y h = refl
set_at (z ∷ xs) (suc k) y h = set_at xs k y (omega (arith, h))

pub set_length : {A : Type 0} (xs : List A) (k : ℕ) (y : A) → length (slice_set xs k y) ≡ length xs
set_length [] k y = refl
set_length (z ∷ xs) zero y = refl
set_length (z ∷ xs) (suc k) y = ap (λ n. suc n) (set_length xs k y)

pub each_append : {A : Type 0} (P : A → Type 0) (xs ys : List A) → AllByRecursion P xs → AllByRecursion P ys → AllByRecursion P (xs ++ ys)
each_append P [] ys h k = k
each_append P (x ∷ xs) ys h k = (h.0, each_append P xs ys h.1 k)
