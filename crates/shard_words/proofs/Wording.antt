-- Words by their places.
use Rattle.std.proofs.Common.{◌≡◌, ◌≤◌, ◌<◌, ◌+◌, ℕ, zero, suc, List, [], ◌∷◌, ◌++◌, HoldsAt, IfOk, Result, Ok, Err, Option, length, drop, refl, sym, ap, ap₂, ◌∙◌, arith, add-one, append-nil, append_assoc, drop-cons}
use Rattle.command_words.specs.{number_of}
use Rattle.shard_words.specs.{asked_for, asked_of, merge_of, merge_with, run_of, run_with, ShardCommand}

-- ---- names of files

pub files_more : (files more ws : List (List ℕ)) (name w : List ℕ) (i : ℕ) → i < length ws → more ≡ files ++ name ∷ [] → name ≡ w → HoldsAt (λ x. w ≡ x) ws i → files ++ drop i ws ≡ drop 2 ws → more ++ drop (i + 1) ws ≡ drop 2 ws
files_more files more ws name w i l e same h rest =
    let next : drop i ws ≡ w ∷ drop (i + 1) ws = drop-cons ws i w l ∙ ap₂ (λ x n. x ∷ drop n ws) (sym (h w)) (sym (add-one i)) in
    ap (λ m. m ++ drop (i + 1) ws) e ∙ append_assoc files (name ∷ []) (drop (i + 1) ws) ∙ ap (λ x. files ++ x ∷ drop (i + 1) ws) same ∙ sym (ap (λ m. files ++ m) next) ∙ rest

all_dropped : (xs : List (List ℕ)) (n : ℕ) → length xs ≤ n → drop n xs ≡ []
all_dropped [] zero le = refl
all_dropped [] (suc n) le = refl
all_dropped (x ∷ xs) zero le = absurd (omega arith)
all_dropped (x ∷ xs) (suc n) le = all_dropped xs n (omega arith)

pub files_done : (files ws : List (List ℕ)) (i : ℕ) → length ws ≤ i → files ++ drop i ws ≡ drop 2 ws → files ≡ drop 2 ws
files_done files ws i le h = sym (append-nil files) ∙ sym (ap (λ l. files ++ l) (all_dropped ws i le)) ∙ h

-- ---- commands

run_is : (ws : List (List ℕ)) (script table size lo hi : List ℕ) → length ws ≡ 6 → HoldsAt (λ x. script ≡ x) ws 1 → HoldsAt (λ x. table ≡ x) ws 2 → HoldsAt (λ x. size ≡ x) ws 3 → HoldsAt (λ x. lo ≡ x) ws 4 → HoldsAt (λ x. hi ≡ x) ws 5
    → run_with script table (number_of 1 1000000 size) (number_of 0 1000000 lo) (number_of 0 1000000 hi) ≡ run_of (drop 1 ws)
run_is [] script table size lo hi l p q r s t = absurd (omega arith)
run_is (a ∷ []) script table size lo hi l p q r s t = absurd (omega arith)
run_is (a ∷ b ∷ []) script table size lo hi l p q r s t = absurd (omega arith)
run_is (a ∷ b ∷ c ∷ []) script table size lo hi l p q r s t = absurd (omega arith)
run_is (a ∷ b ∷ c ∷ d ∷ []) script table size lo hi l p q r s t = absurd (omega arith)
run_is (a ∷ b ∷ c ∷ d ∷ e ∷ []) script table size lo hi l p q r s t = absurd (omega arith)
run_is (a ∷ b ∷ c ∷ d ∷ e ∷ f ∷ []) script table size lo hi l p q r s t =
    λ i. run_with (p [] i) (q [] i) (number_of 1 1000000 (r [] i)) (number_of 0 1000000 (s [] i)) (number_of 0 1000000 (t [] i))
run_is (a ∷ b ∷ c ∷ d ∷ e ∷ f ∷ g ∷ ws) script table size lo hi l p q r s t = absurd (omega arith)

pub run_found : {E : Type 0} (ws : List (List ℕ)) (script table size lo hi : List ℕ) (n m k : Option ℕ) (r : Result (Option ShardCommand) E) → length ws ≡ 6
    → HoldsAt (λ x. script ≡ x) ws 1 → HoldsAt (λ x. table ≡ x) ws 2 → HoldsAt (λ x. size ≡ x) ws 3 → HoldsAt (λ x. lo ≡ x) ws 4 → HoldsAt (λ x. hi ≡ x) ws 5
    → n ≡ number_of 1 1000000 size → m ≡ number_of 0 1000000 lo → k ≡ number_of 0 1000000 hi
    → IfOk r (λ command. command ≡ run_with script table n m k) → IfOk r (λ command. command ≡ run_of (drop 1 ws))
run_found ws script table size lo hi n m k (Err e) l a b c d f is_n is_m is_k h = tt
run_found ws script table size lo hi n m k (Ok o) l a b c d f is_n is_m is_k h = h ∙ (λ i. run_with script table (is_n i) (is_m i) (is_k i)) ∙ run_is ws script table size lo hi l a b c d f

pub merge_found : (ws : List (List ℕ)) (word script : List ℕ) (files : List (List ℕ)) → 2 ≤ length ws → HoldsAt (λ x. word ≡ x) ws 1 → script ≡ word → files ≡ drop 2 ws → merge_with script files ≡ merge_of (drop 1 ws)
merge_found [] word script files l h same rest = absurd (omega arith)
merge_found (a ∷ []) word script files l h same rest = absurd (omega arith)
merge_found (a ∷ b ∷ ws) word script files l h same rest = ap₂ merge_with (same ∙ h []) rest

pub first_word : {E : Type 0} (ws : List (List ℕ)) (word : List ℕ) (r : Result (Option ShardCommand) E) → 1 ≤ length ws → HoldsAt (λ x. word ≡ x) ws 0 → IfOk r (λ command. command ≡ asked_for word (drop 1 ws)) → IfOk r (λ command. command ≡ asked_of ws)
first_word ws word (Err e) l h is = tt
first_word [] word (Ok o) l h is = absurd (omega arith)
first_word (a ∷ ws) word (Ok o) l h is = is ∙ ap (λ w. asked_for w ws) (h [])
