-- The first items of a list, its parts, and how many digits a number has.
use Rattle.lemmas.proofs.{◌≡◌, ◌+◌, ◌∙◌, ◌++◌, ◌∷◌, [], ℕ, List, Some, ap, append_assoc, length, sym, take, slice_get, ◌<◌, ◌≤◌, ◌-◌, drop, Bool, false, None, Option, arith, refl, suc, not, nat_lt, position, cond, ◌*◌, ◌^◌, add-one, leb, take_next, nat_tests, onto_first, position_or_len, slice_split, slice_split_first, and_false, digit_value, digits_value_after, pow-le-pow_right, pow-succ'}
use Rattle.std.proofs.lemmas.List.{take_all, length-drop}
use Rattle.rdf_values.specs.{digits_up_to}

pub front_more : {A : Type 0} (old now next more : List A) (i : ℕ) (x : A) → next ≡ now ++ x ∷ [] → now ≡ old ++ take i more → slice_get more i ≡ Some x → next ≡ old ++ take (i + 1) more
front_more old now next more i x p s e = p ∙ ap (λ t. t ++ x ∷ []) s ∙ append_assoc old (take i more) (x ∷ []) ∙ ap (λ t. old ++ t) (sym (take_next more i x e))

-- ---- The parts of a list, by the place of the first element at which it is cut.

no_cut_if : (b : Bool) (p : ℕ → Bool) (x : ℕ) (xs : List ℕ) → (length xs ≤ position_or_len p xs → slice_split p xs ≡ xs ∷ [])
    → suc (length xs) ≤ cond (not b) (1 + position_or_len p xs) 0 → cond b ([] ∷ slice_split p xs) (onto_first x (slice_split p xs)) ≡ (x ∷ xs) ∷ []
no_cut_if b p x xs ih h = grind arith

no_cut : (p : ℕ → Bool) (xs : List ℕ) → length xs ≤ position_or_len p xs → slice_split p xs ≡ xs ∷ []
no_cut p [] h = refl
no_cut p (x ∷ xs) h = no_cut_if (p x) p x xs (no_cut p xs) h

abbrev pub Cut : (ℕ → Bool) → List ℕ → Option ℕ → Type 0
Cut p xs None = slice_split p xs ≡ xs ∷ []
Cut p xs (Some i) = (i < length xs) × (slice_split p xs ≡ take i xs ∷ slice_split p (drop (i + 1) xs))

cut_if : (p : ℕ → Bool) (xs : List ℕ) (b : Bool) → nat_lt (position_or_len p xs) (length xs) ≡ b → Cut p xs (cond b (Some (position_or_len p xs)) None)
cut_if p xs b e = grind (arith, nat_tests, slice_split_first, no_cut)

pub cut_at : (p : ℕ → Bool) (xs : List ℕ) → Cut p xs (position p xs)
cut_at p xs = cut_if p xs (nat_lt (position_or_len p xs) (length xs)) refl

pub rest_of : (i : ℕ) (xs : List ℕ) → take (length xs - i) (drop i xs) ≡ drop i xs
rest_of i xs = take_all (length xs - i) (drop i xs) (omega (arith, length-drop i xs))

-- ---- How large the number of digits grows.

pub grows : (n : ℕ) (cs : List ℕ) → n ≤ digits_value_after 10 n cs
grows n [] = omega arith
grows n (c ∷ cs) = omega (arith, grows (n * 10 + digit_value c) cs)

above : (a b : ℕ) → a < b → leb b a ≡ false
above a b h = grind (arith, nat_tests)

pub stops_at_digit : (most value c : ℕ) (ds : List ℕ) → most < value * 10 + digit_value c → digits_up_to most value (c ∷ ds) ≡ None
stops_at_digit most value c ds h = grind (arith, above, grows, and_false)

-- one of 18 digits more
pub one_more_digit : (i value digit : ℕ) → i < 18 → value < 10 ^ i → digit < 10 → (value * 10 + digit < 10 ^ (i + 1)) × (value * 10 + digit < 1000000000000000000)
one_more_digit i value digit few below d =
    let next : 10 ^ (i + 1) ≡ 10 * 10 ^ i = ap (λ n. 10 ^ n) (add-one i) ∙ pow-succ' 10 i in
    let within : i + 1 ≤ 18 = omega arith in
    let last : 10 ^ (i + 1) ≤ 10 ^ 18 = pow-le-pow_right {n = 10} (omega arith) within in
    let all : 10 ^ 18 ≡ 1000000000000000000 = refl in
    (omega (arith, next, below), omega (arith, next, below, last, all))
