-- A text is cut into words at its spaces.
use Rattle.lemmas.proofs.{◌≡◌, ◌≤◌, ◌<◌, ◌+◌, ◌-◌, ℕ, zero, suc, true, false, cond, List, [], ◌∷◌, ◌++◌, length, get_or, take, drop, refl, ap, ◌∙◌, sym, subst, arith, drop-cons, ◌==◌}
use Rattle.std.specs.List.{onto_first}
use Rattle.std.proofs.lemmas.List.{take-append-drop, take_all, take_more}
use Rattle.shard_lines.specs.{words_behind, words_in}

-- no byte is a space
abbrev pub Spaceless : List ℕ → Type 0
Spaceless [] = Unit {0}
Spaceless (b ∷ bs) = ((b == 32) ≡ false) × Spaceless bs

spaceless_push : (xs : List ℕ) (x : ℕ) → Spaceless xs → (x == 32) ≡ false → Spaceless (xs ++ x ∷ [])
spaceless_push [] x h e = (e, tt)
spaceless_push (y ∷ xs) x h e = (h.0, spaceless_push xs x h.1 e)

pub spaceless_more : (xs : List ℕ) (i : ℕ) → i < length xs → Spaceless (take i xs) → (get_or xs i 0 == 32) ≡ false → Spaceless (take (i + 1) xs)
spaceless_more xs i l h e = subst Spaceless (sym (take_more xs i 0 l)) (spaceless_push (take i xs) (get_or xs i 0) h e)

pub cut_none : (xs : List ℕ) → Spaceless xs → words_in xs ≡ xs ∷ []
cut_none [] h = refl
cut_none (x ∷ xs) h = ap (λ b. cond b ([] ∷ words_in xs) (onto_first x (words_in xs))) h.0 ∙ ap (onto_first x) (cut_none xs h.1)

pub cut_at : (xs : List ℕ) (b : ℕ) (ys : List ℕ) → Spaceless xs → (b == 32) ≡ true → words_in (xs ++ b ∷ ys) ≡ xs ∷ words_in ys
cut_at [] b ys h e = ap (λ t. cond t ([] ∷ words_in ys) (onto_first b (words_in ys))) e
cut_at (x ∷ xs) b ys h e = ap (λ t. cond t ([] ∷ words_in (xs ++ b ∷ ys)) (onto_first x (words_in (xs ++ b ∷ ys)))) h.0 ∙ ap (onto_first x) (cut_at xs b ys h.1 e)

-- the rest of a slice
pub rest_is : (n i : ℕ) (text : List ℕ) → n ≡ length text → take (n - i) (drop i text) ≡ drop i text
rest_is n i text e = take_all (n - i) (drop i text) (short i text (n - i) (omega (arith, e)))
  where
    short : (i : ℕ) (xs : List ℕ) (m : ℕ) → length xs - i ≤ m → length (drop i xs) ≤ m
    short zero xs m h = omega arith
    short (suc i) [] m h = omega arith
    short (suc i) (x ∷ xs) m h = short i xs m (omega arith)

pub cut_here : (text : List ℕ) (i : ℕ) → i < length text → Spaceless (take i text) → (get_or text i 0 == 32) ≡ true → words_in text ≡ take i text ∷ words_behind (take (length text - i) (drop i text))
cut_here text i l h e =
    let next : drop i text ≡ get_or text i 0 ∷ drop (suc i) text = drop-cons text i 0 l in
    ap words_in (sym (take-append-drop i text) ∙ ap (λ t. take i text ++ t) next) ∙ cut_at (take i text) (get_or text i 0) (drop (suc i) text) h e
    ∙ ap (λ t. take i text ∷ words_behind t) (sym (rest_is (length text) i text refl ∙ next))

pub cut_nowhere : (text : List ℕ) (i : ℕ) → length text ≤ i → Spaceless (take i text) → words_in text ≡ text ∷ []
cut_nowhere text i l h = cut_none text (subst Spaceless (take_all i text l) h)
