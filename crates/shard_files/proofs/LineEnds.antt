-- The first line of a text.
use Rattle.lemmas.proofs.{◌≡◌, ◌≤◌, ◌<◌, ◌+◌, ◌-◌, ℕ, true, false, List, [], ◌∷◌, ◌++◌, length, get_or, take, drop, ap, ap₂, ◌∙◌, refl, sym, subst, arith, add-one, drop-cons, ◌==◌}
use Rattle.std.proofs.lemmas.Bool.Decides.{nat_tests}
use Rattle.std.proofs.lemmas.List.{take-append-drop, take_all, take_more}
use Rattle.shard_lines.proofs.Cutting.{rest_is}
use Rattle.shard_files.specs.Endless.{Endless}

endless_push : (xs : List ℕ) (x : ℕ) → Endless xs → (x == 10) ≡ false → Endless (xs ++ x ∷ [])
endless_push [] x h e = (e, tt)
endless_push (y ∷ xs) x h e = (h.0, endless_push xs x h.1 e)

pub endless_more : (xs : List ℕ) (i : ℕ) → i < length xs → Endless (take i xs) → (get_or xs i 0 == 10) ≡ false → Endless (take (i + 1) xs)
endless_more xs i l h e = subst Endless (sym (take_more xs i 0 l)) (endless_push (take i xs) (get_or xs i 0) h e)

pub endless_all : (xs : List ℕ) (i : ℕ) → length xs ≤ i → Endless (take i xs) → Endless xs
endless_all xs i l h = subst Endless (take_all i xs l) h

pub line_here : (text : List ℕ) (i : ℕ) → i < length text → (get_or text i 0 == 10) ≡ true → text ≡ take i text ++ 10 ∷ take (length text - (i + 1)) (drop (i + 1) text)
line_here text i l e =
    let end : get_or text i 0 ≡ 10 = grind (arith, nat_tests) in
    let next : drop i text ≡ 10 ∷ drop (i + 1) text = drop-cons text i 0 l ∙ ap₂ (λ b n. b ∷ drop n text) end (sym (add-one i)) in
    sym (take-append-drop i text) ∙ ap (λ t. take i text ++ t) (next ∙ ap (λ t. 10 ∷ t) (sym (rest_is (length text) (i + 1) text refl)))
