-- Texts that grow piece by piece.
use Rattle.lemmas.proofs.{◌≡◌, ◌+◌, ℕ, List, [], ◌∷◌, ◌++◌, refl, ap, ◌∙◌, sym, append_assoc, append-nil, flat_map}
use Rattle.shard_lines.specs.{joined_words, spaced}

-- a map of lists joins what it makes of two parts
pub joins : {A B : Type 0} (f : A → List B) (xs ys : List A) → flat_map f (xs ++ ys) ≡ flat_map f xs ++ flat_map f ys
joins f [] ys = refl
joins f (x ∷ xs) ys = ap (λ t. f x ++ t) (joins f xs ys) ∙ sym (append_assoc (f x) (flat_map f xs) (flat_map f ys))

-- ---- words

-- words with spaces between are the first one, and each other one behind a space
pub as_spaced : (w : List ℕ) (ws : List (List ℕ)) → joined_words (w ∷ ws) ≡ w ++ spaced ws
as_spaced w [] = sym (append-nil w)
as_spaced w (x ∷ ws) = ap (λ t. w ++ 32 ∷ t) (as_spaced x ws)

-- a first word and others
pub words_on : (t a b w : List ℕ) (ws : List (List ℕ)) → a ≡ t ++ w → b ≡ a ++ spaced ws → b ≡ t ++ joined_words (w ∷ ws)
words_on t a b w ws h k = k ∙ ap (λ z. z ++ spaced ws) h ∙ append_assoc t w (spaced ws) ∙ ap (λ z. t ++ z) (sym (as_spaced w ws))

-- one more word
pub spaced_on : (a b c x : List ℕ) (ws : List (List ℕ)) → b ≡ a ++ spaced (x ∷ []) → c ≡ b ++ spaced ws → c ≡ a ++ spaced (x ∷ ws)
spaced_on a b c x ws h k = k ∙ ap (λ z. z ++ spaced ws) h ∙ append_assoc a (spaced (x ∷ [])) (spaced ws) ∙ ap (λ z. a ++ z) (ap (λ z. z ++ spaced ws) (append-nil (32 ∷ x)))
