-- Lists without the element at a place, and elements that are there.
use Rattle.lemmas.proofs.{◌≡◌, ◌<◌, ℕ, zero, suc, List, [], ◌∷◌, length, map, get_or, refl, ap, ◌∙◌, sym, arith, Some, slice_get, get_or-map, remove}
use Rattle.columns.specs.{ColumnPieces, whole}

pub remove_nil : {A : Type 0} (p : ℕ) → remove {X = A} [] p ≡ []
remove_nil zero = refl
remove_nil (suc p) = refl

pub map-remove : {A B : Type 0} (f : A → B) (xs : List A) (p : ℕ) → map f (remove xs p) ≡ remove (map f xs) p
map-remove f [] p = ap (map f) (remove_nil p) ∙ sym (remove_nil p)
map-remove f (x ∷ xs) zero = refl
map-remove f (x ∷ xs) (suc p) = ap (λ t. f x ∷ t) (map-remove f xs p)

pub there : {A : Type 0} (xs : List A) (i : ℕ) (d : A) → i < length xs → slice_get xs i ≡ Some (get_or xs i d)
there [] i d l = absurd (omega arith)
there (x ∷ xs) zero d l = refl
there (x ∷ xs) (suc i) d l = there xs i d (omega arith)

pub got : {A : Type 0} (xs : List A) (i : ℕ) (x d : A) → slice_get xs i ≡ Some x → (i < length xs) × (get_or xs i d ≡ x)
got [] i x d h = cc h
got (y ∷ ys) zero x d h = let same : y ≡ x = cc h in (omega arith, same)
got (y ∷ ys) (suc i) x d h = let rest = got ys i x d h in (let lt = rest.0 in omega arith, rest.1)

-- the value of a map at a place
pub mapped : {A B : Type 0} (f : A → B) (xs : List A) (i : ℕ) (x : A) (d : B) → slice_get xs i ≡ Some x → get_or (map f xs) i d ≡ f x
mapped f [] i x d h = cc h
mapped f (y ∷ ys) zero x d h = let same : y ≡ x = cc h in ap f same
mapped f (y ∷ ys) (suc i) x d h = mapped f ys i x d h

-- a column in pieces at a place
pub whole_at : (pieces : List ColumnPieces) (i : ℕ) (p : ColumnPieces) → i < length pieces → p ≡ get_or pieces i p → whole p ≡ get_or (map whole pieces) i (whole p)
whole_at pieces i p l e = sym (get_or-map whole pieces i p (whole p) l ∙ ap whole (sym e))
