-- Numbers that stood before.
use Rattle.lemmas.proofs.{◌≡◌, ◌<◌, ◌+◌, ℕ, ℤ, suc, true, false, Bool, cond, List, [], ◌∷◌, ◌++◌, length, get_or, take, drop, Option, Some, ap, ◌∙◌, sym, add-one, drop-cons, if◌then◌else◌, not, int_eq, list_any, not-false, not-true, take_more}
use Rattle.friend_join.specs.{repeat_from}

-- a new number goes on
pub repeat_more : (ns : List ℤ) (e : ℕ) (n : ℤ) (r : Option ℕ) → e < length ns → n ≡ get_or ns e n → list_any (int_eq n) (take e ns) ≡ false
    → repeat_from e (take e ns) (drop e ns) ≡ r → repeat_from (e + 1) (take (e + 1) ns) (drop (e + 1) ns) ≡ r
repeat_more ns e n r l q new h =
    let next : drop e ns ≡ n ∷ drop (e + 1) ns = rw (add-one e) (drop-cons ns e n l ∙ ap (λ x. x ∷ drop (suc e) ns) (sym q)) in
    let shown : take (e + 1) ns ≡ take e ns ++ n ∷ [] = take_more ns e n l ∙ ap (λ x. take e ns ++ x ∷ []) (sym q) in
    rw shown (sym (ap (λ t. repeat_from e (take e ns) t) next ∙ ap (λ b. cond b (Some e) (repeat_from (e + 1) (take e ns ++ n ∷ []) (drop (e + 1) ns))) new) ∙ h)

-- a number that stood before is the first
pub repeat_here : (ns : List ℤ) (e : ℕ) (n : ℤ) (r : Option ℕ) → e < length ns → n ≡ get_or ns e n → list_any (int_eq n) (take e ns) ≡ true
    → repeat_from e (take e ns) (drop e ns) ≡ r → r ≡ Some e
repeat_here ns e n r l q old h =
    let next : drop e ns ≡ n ∷ drop (e + 1) ns = rw (add-one e) (drop-cons ns e n l ∙ ap (λ x. x ∷ drop (suc e) ns) (sym q)) in
    sym h ∙ ap (λ t. repeat_from e (take e ns) t) next ∙ ap (λ b. cond b (Some e) (repeat_from (e + 1) (take e ns ++ n ∷ []) (drop (e + 1) ns))) old

-- an insertion that added nothing
pub old_key : (n : ℤ) (keys seen : List ℤ) (added : Bool) → keys ≡ seen → added ≡ not (list_any (int_eq n) keys) → added ≡ false → list_any (int_eq n) seen ≡ true
old_key n keys seen added s a f = ap (list_any (int_eq n)) (sym s) ∙ not-false (list_any (int_eq n) keys) (sym a ∙ f)

-- an insertion that added the number
pub new_key : (n : ℤ) (keys seen : List ℤ) (added : Bool) → keys ≡ seen → added ≡ not (list_any (int_eq n) keys) → added ≡ true → list_any (int_eq n) seen ≡ false
new_key n keys seen added s a t = ap (list_any (int_eq n)) (sym s) ∙ not-true (list_any (int_eq n) keys) (sym a ∙ t)

pub grown : (ns : List ℤ) (e : ℕ) (n : ℤ) (keys now : List ℤ) → e < length ns → n ≡ get_or ns e n → keys ≡ take e ns → list_any (int_eq n) (take e ns) ≡ false
    → now ≡ (if list_any (int_eq n) keys then keys else keys ++ n ∷ []) → now ≡ take (e + 1) ns
grown ns e n keys now l q s new k =
    k ∙ ap (λ b. cond b keys (keys ++ n ∷ [])) (ap (list_any (int_eq n)) s ∙ new) ∙ ap (λ t. t ++ n ∷ []) s ∙ sym (take_more ns e n l ∙ ap (λ x. take e ns ++ x ∷ []) (sym q))
