-- Lists that are read item by item.
use Rattle.lemmas.proofs.{◌≡◌, ℕ, List, [], ◌∷◌, ◌++◌, Option, Some, None, refl, ap, ◌∙◌, sym, append_assoc}
use Rattle.shard_lines.specs.{onto, pairs_of}

-- items, and those that follow
abbrev pub all_on : {A : Type 0} → List A → Option (List A) → Option (List A)
all_on xs None = None
all_on xs (Some ys) = Some (xs ++ ys)

on_one : {A : Type 0} (xs : List A) (x : A) (o : Option (List A)) → all_on (xs ++ x ∷ []) o ≡ all_on xs (onto (Some x) o)
on_one xs x None = refl
on_one xs x (Some ys) = ap Some (append_assoc xs (x ∷ []) ys)

pub pairs_next : {A : Type 0} (read : List ℕ → List ℕ → Option A) (xs now : List A) (x : A) (w v : List ℕ) (vs ws all : List (List ℕ)) (target : Option (List A)) → read w v ≡ Some x → all ≡ w ∷ vs → vs ≡ v ∷ ws → now ≡ xs ++ x ∷ []
    → all_on xs (pairs_of read all) ≡ target → all_on now (pairs_of read ws) ≡ target
pairs_next read xs now x w v vs ws all target r a b n h =
    ap (λ t. all_on t (pairs_of read ws)) n ∙ on_one xs x (pairs_of read ws) ∙ ap (λ o. all_on xs (onto o (pairs_of read ws))) (sym r) ∙ ap (λ t. all_on xs (pairs_of read t)) (sym (a ∙ ap (λ t. w ∷ t) b)) ∙ h
