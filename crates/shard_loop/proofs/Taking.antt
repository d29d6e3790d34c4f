-- Lists that take in one item after another.
use Rattle.lemmas.proofs.{◌≡◌, ℕ, ◌+◌, List, [], ◌∷◌, ◌++◌, map, take, get_or, Some, sym, ap, ◌∙◌, append_assoc, slice_get, get_or_from_slice_get, map-append, take_next}
use Rattle.loop_pieces.specs.{Counts, nothing}

-- one more item, behind others
pub made_next : {A B : Type 0} (f : A → B) (xs : List A) (i : ℕ) (x : A) (before out more : List B) (y : B) → out ≡ before ++ map f (take i xs) → slice_get xs i ≡ Some x → more ≡ out ++ y ∷ [] → y ≡ f x
    → more ≡ before ++ map f (take (i + 1) xs)
made_next f xs i x before out more y h at is same =
    is ∙ ap (λ l. l ++ y ∷ []) h ∙ append_assoc before (map f (take i xs)) (y ∷ []) ∙ ap (λ z. before ++ (map f (take i xs) ++ z ∷ [])) same
    ∙ ap (λ l. before ++ l) (sym (ap (map f) (take_next xs i x at) ∙ map-append f (take i xs) (x ∷ [])))

-- one more of the same items
pub copied_next : {A : Type 0} (xs : List A) (i : ℕ) (x : A) (out more : List A) → out ≡ take i xs → slice_get xs i ≡ Some x → more ≡ out ++ x ∷ [] → more ≡ take (i + 1) xs
copied_next xs i x out more h at is = is ∙ ap (λ l. l ++ x ∷ []) h ∙ sym (take_next xs i x at)

-- the counts of one more filter
pub counted_next : (ns : List ℕ) (flow : List Counts) (i n : ℕ) (out more : List Counts) (c : Counts) → out ≡ map (λ f. get_or flow f nothing) (take i ns) → slice_get ns i ≡ Some n → slice_get flow n ≡ Some c → more ≡ out ++ c ∷ []
    → more ≡ map (λ f. get_or flow f nothing) (take (i + 1) ns)
counted_next ns flow i n out more c h at there is = made_next (λ f. get_or flow f nothing) ns i n [] out more c h at is (sym (get_or_from_slice_get flow n c nothing there))
