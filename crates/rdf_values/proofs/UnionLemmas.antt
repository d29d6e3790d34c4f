-- Rising lists, unions of sets, and how often numbers stand in lists.
use Rattle.lemmas.proofs.{◌≡◌, ◌<◌, ℕ, zero, suc, [], ◌∷◌, ◌++◌, length, map, Some, arith, refl, ap₂, ◌∙◌, length-append, inl, inr, sym, slice_get, ◌+◌, List, cond, true, false, ap, ⊎_elim, get_or, ◌==◌, IsPermutation, ◌≤◌, Bool, add-one, kept_at, last_at, lt_or_last, map-append, All, cases_Bool, common_steps, concat, cond-false, cond-true, Contains, Contains-append_right, eqb-true, IsPermutation-cons, IsPermutation-refl, IsPermutation-remove, IsPermutation-trans, IsStrictlyIncreasing, le-ltb, lt-ltb, remove, sum_by, sum_by-append, sum_by-cons, sum_by-IsPermutation, sum_by_push, All-cons, All-head, All-nil, All-push, All-tail, All-weaker, filter, IsStrictlyIncreasing-filter}
use Rattle.rdf_values.specs.{below, DrawnBy, once_below, SharedOut, times, DrawnListsUnite, IsUnion, NoneIsNeutral, OrderDoesNotMatter, UnionIsOne, UniteFromEitherSide}
use lib.Dec.{ltb}
use native.Mathlib.Numerals.{unary_clauses}

pub length-below : (n : ℕ) → length (below n) ≡ n
length-below zero = refl
length-below (suc n) = omega (arith, length-append (below n) (n ∷ []), length-below n)

pub slice_get-below : (n i : ℕ) → i < n → slice_get (below n) i ≡ Some i
slice_get-below zero i h = absurd (omega arith)
slice_get-below (suc n) i h = elim (lt_or_last i n (omega arith)) [
  | inl l ↦ kept_at (below n) (n ∷ []) i i (slice_get-below n i l)
  | inr e ↦ rw e (rw (length-below n) at (last_at (below n) n))
]

pub map-below : {A : Type 0} (n : ℕ) (f g : ℕ → A) → ((e : ℕ) → e < n → f e ≡ g e) → map f (below n) ≡ map g (below n)
map-below zero f g h = refl
map-below (suc n) f g h =
    map-append f (below n) (n ∷ [])
    ∙ ap₂ (λ xs x. xs ++ x ∷ []) (map-below n f g (λ e l. h e (omega arith))) (h n (omega arith))
    ∙ sym (map-append g (below n) (n ∷ []))

-- ---- How often numbers stand in lists, and lists with the same counts.

-- 1 where y is x
abbrev pub one_if : ℕ → ℕ → ℕ
one_if x y = cond (y == x) 1 0

pub times_cons : (x y : ℕ) (ys : List ℕ) → times x (y ∷ ys) ≡ cond (y == x) 1 0 + times x ys
times_cons x y ys = sum_by-cons (λ z. cond (z == x) 1 0) y ys

pub times_append : (x : ℕ) (xs ys : List ℕ) → times x (xs ++ ys) ≡ times x xs + times x ys
times_append x xs ys = sum_by-append (λ y. cond (y == x) 1 0) xs ys

pub times_push : (x : ℕ) (xs : List ℕ) (n : ℕ) → times x (xs ++ n ∷ []) ≡ times x xs + cond (n == x) 1 0
times_push x xs n = sum_by_push (λ y. cond (y == x) 1 0) xs n

pub times_self : (x : ℕ) (xs : List ℕ) → times x (x ∷ xs) ≡ suc (times x xs)
times_self x xs = grind (arith, common_steps, times_cons x x xs)

pub times_other : (x y : ℕ) (ys : List ℕ) → (y ≡ x → ⊥) → times x (y ∷ ys) ≡ times x ys
times_other x y ys ne = grind (arith, common_steps, times_cons x y ys)

pub once_next : (x n : ℕ) → once_below x (n + 1) ≡ once_below x n + cond (n == x) 1 0
once_next x n = grind (arith, common_steps)

pub once_inside : (x m : ℕ) → x < m → once_below x m ≡ 1
once_inside x m lt = cond-true {A = ℕ} (ltb x m) 1 0 (lt-ltb x m lt)

pub inside_once : (x m : ℕ) → 0 < once_below x m → x < m
inside_once x m more = grind (arith, common_steps)

pub times_below : (x m : ℕ) → times x (below m) ≡ once_below x m
times_below x zero = sym (cond-false {A = ℕ} (ltb x 0) 1 0 (le-ltb x 0 (omega arith)))
times_below x (suc m) = times_push x (below m) m ∙ ap (λ n. n + cond (m == x) 1 0) (times_below x m) ∙ sym (once_next x m) ∙ ap (once_below x) (omega arith)

pub times_concat : (x : ℕ) (lists : List (List ℕ)) → times x (concat lists) ≡ sum_by (times x) lists
times_concat x [] = refl
times_concat x (l ∷ ls) = times_append x l (concat ls) ∙ ap (λ n. times x l + n) (times_concat x ls) ∙ sym (sum_by-cons (times x) l ls)

-- what is counted stands in the list
pub times_contains : (x : ℕ) (xs : List ℕ) → 0 < times x xs → Contains xs x
times_contains x [] more = absurd (omega arith)
times_contains x (y ∷ ys) more = ⊎_elim
    (λ (t : (y == x) ≡ true). (0, omega arith, eqb-true y x t))
    (λ (f : (y == x) ≡ false).
    let none : cond (y == x) 1 0 ≡ 0 = cond-false {A = ℕ} (y == x) 1 0 f in
    Contains-append_right (y ∷ []) ys x (times_contains x ys (omega (arith, times_cons x y ys))))
    (cases_Bool (y == x))

pub times_permuted : (x : ℕ) (xs ys : List ℕ) → IsPermutation xs ys → times x ys ≡ times x xs
times_permuted x xs ys p = sum_by-IsPermutation (λ y. cond (y == x) 1 0) xs ys p

-- lists with the same counts differ in their order alone
pub permuted_by_counts : (ys xs : List ℕ) → ((x : ℕ) → times x xs ≡ times x ys) → IsPermutation xs ys
permuted_by_counts [] [] same = IsPermutation-refl []
permuted_by_counts [] (x ∷ xs) same = absurd (omega (arith, times_self x xs, same x))
permuted_by_counts (y ∷ ys) xs same =
    let there = times_contains y xs (omega (arith, times_self y ys, same y)) in
    let out = IsPermutation-remove xs there.0 y there.1 (elim_at there.0 there.2) in
    let rest = permuted_by_counts ys (remove xs there.0) (λ x. omega (arith, times_permuted x xs (y ∷ remove xs there.0) out, times_cons x y (remove xs there.0), times_cons x y ys, same x)) in
    IsPermutation-trans xs (y ∷ remove xs there.0) (y ∷ ys) out (IsPermutation-cons y (remove xs there.0) ys rest)
  where
    elim_at : (k : ℕ) → get_or xs k y ≡ y → y ≡ get_or xs k y
    elim_at k e = sym e

-- lists that share out the numbers below m are drawn by m numbers
pub drawn_by_counts : (lists : List (List ℕ)) (m : ℕ) → SharedOut lists m → DrawnBy lists m
drawn_by_counts lists m shared = record {
  rising = shared.0;
  each_once = permuted_by_counts (below m) (concat lists) (λ x. times_concat x lists ∙ shared.1 x ∙ sym (times_below x m));
}

pub counts_by_drawn : (lists : List (List ℕ)) (m : ℕ) → DrawnBy lists m → SharedOut lists m
counts_by_drawn lists m drawn = (drawn.rising, λ x. sym (times_concat x lists) ∙ sym (times_permuted x (concat lists) (below m) drawn.each_once) ∙ times_below x m)

pub rises_push : (xs : List ℕ) (n : ℕ) → IsStrictlyIncreasing xs → All (λ y. y < n) xs → IsStrictlyIncreasing (xs ++ n ∷ [])
rises_push xs n up below k lt = grind (arith, common_steps, up k, below k 0)

pub sum_by-map : {A B : Type 0} (g : B → ℕ) (f : A → B) (xs : List A) → sum_by g (map f xs) ≡ sum_by (λ x. g (f x)) xs
sum_by-map g f [] = refl
sum_by-map g f (x ∷ xs) = let rest = sum_by-map g f xs in omega (arith, sum_by-cons g (f x) (map f xs), sum_by-cons (λ y. g (f y)) x xs)

-- ---- Rising lists, and unions of sets: rising lists

-- every element is above x
abbrev pub Above : ℕ → List ℕ → Type 0
Above x [] = Unit {0}
Above x (y ∷ ys) = (x < y) × Above x ys

abbrev pub Rises : List ℕ → Type 0
Rises [] = Unit {0}
Rises (x ∷ xs) = Above x xs × Rises xs

pub rises_tail : (x : ℕ) (xs : List ℕ) → IsStrictlyIncreasing (x ∷ xs) → IsStrictlyIncreasing xs
rises_tail x xs up k lt = rw add-one (simp unary_clauses at (up (suc k) (omega (arith, lt))))

pub above_from : (x : ℕ) (xs : List ℕ) → IsStrictlyIncreasing (x ∷ xs) → Above x xs
above_from x [] up = tt
above_from x (y ∷ ys) up =
    let first : x < y = up 0 (omega arith) in
    (first, lower x y ys first (above_from y ys (rises_tail x (y ∷ ys) up)))
  where
    lower : (a b : ℕ) (zs : List ℕ) → a < b → Above b zs → Above a zs
    lower a b [] lt h = tt
    lower a b (z ∷ zs) lt h = let first = h.0 in (omega arith, lower a b zs lt h.1)

pub rises_from : (xs : List ℕ) → IsStrictlyIncreasing xs → Rises xs
rises_from [] up = tt
rises_from (x ∷ xs) up = (above_from x xs up, rises_from xs (rises_tail x xs up))

pub none_above : (x y : ℕ) (ys : List ℕ) → x ≤ y → Above y ys → times x ys ≡ 0
none_above x y [] le h = refl
none_above x y (z ∷ zs) le h = let first = h.0 in times_other x z zs (λ e. absurd (omega arith)) ∙ none_above x y zs le h.1

-- a rising list has each number at most once
pub once_rising : (x : ℕ) (xs : List ℕ) → Rises xs → times x xs ≤ 1
once_rising x [] up = omega arith
once_rising x (y ∷ ys) up =
    let none = none_above x y ys in let rest = once_rising x ys up.1 in
    grind (arith, common_steps, times_cons x y ys, none, rest, up.0)

pub same_rising : (xs ys : List ℕ) → Rises xs → Rises ys → ((x : ℕ) → times x xs ≡ times x ys) → xs ≡ ys
same_rising [] [] up down same = refl
same_rising [] (y ∷ ys) up down same = absurd (omega (arith, same y, times_self y ys))
same_rising (x ∷ xs) [] up down same = absurd (omega (arith, same x, times_self x xs))
same_rising (x ∷ xs) (y ∷ ys) up down same =
    let heads : x ≡ y = grind (arith, same x, same y, times_self x xs, times_self y ys, times_other x y ys, times_other y x xs, none_above x y ys, none_above y x xs, up.0, down.0) in
    ap (λ h. h ∷ xs) heads ∙ ap (λ t. y ∷ t) (same_rising xs ys up.1 down.1 (λ z. omega (arith, same z, times_cons z x xs, times_cons z y ys, ap (one_if z) heads)))

-- ---- unions by counts

pub counted : (x : ℕ) (sets : List (List ℕ)) (all : List ℕ) → IsUnion sets all → times x all ≡ sum_by (times x) sets
counted x sets all u = times_permuted x (concat sets) all u.each_once ∙ times_concat x sets

pub by_counts : (sets : List (List ℕ)) (all : List ℕ) → All IsStrictlyIncreasing sets → IsStrictlyIncreasing all → ((x : ℕ) → times x all ≡ sum_by (times x) sets) → IsUnion sets all
by_counts sets all ups up h = record { sets_rise = ups; rising = up; each_once = permuted_by_counts all (concat sets) (λ x. times_concat x sets ∙ sym (h x)) }

pub both_rise : (a b : List ℕ) → IsStrictlyIncreasing a → IsStrictlyIncreasing b → All IsStrictlyIncreasing (a ∷ b ∷ [])
both_rise a b up down = All-cons IsStrictlyIncreasing a (b ∷ []) up (All-cons IsStrictlyIncreasing b [] down (All-nil IsStrictlyIncreasing))

pub first_rises : (a : List ℕ) (rest : List (List ℕ)) → All IsStrictlyIncreasing (a ∷ rest) → IsStrictlyIncreasing a
first_rises a rest ups = All-head IsStrictlyIncreasing a rest ups

pub rest_rise : (a : List ℕ) (rest : List (List ℕ)) → All IsStrictlyIncreasing (a ∷ rest) → All IsStrictlyIncreasing rest
rest_rise a rest ups = All-tail IsStrictlyIncreasing a rest ups

pub none_rises : IsStrictlyIncreasing []
none_rises k lt = absurd (omega arith)

pub two : (x : ℕ) (a b : List ℕ) → sum_by (times x) (a ∷ b ∷ []) ≡ times x a + times x b
two x a b = omega (arith, sum_by-cons (times x) a (b ∷ []), sum_by-cons (times x) b [])

pub alone : (a all : List ℕ) → IsUnion (a ∷ []) all → a ≡ all
alone a all u = same_rising a all (rises_from a (first_rises a [] u.sets_rise)) (rises_from all u.rising) (λ x. sym (counted x (a ∷ []) all u ∙ omega (arith, sum_by-cons (times x) a [])))

pub union_is_one : UnionIsOne
union_is_one sets a b u v = same_rising a b (rises_from a u.rising) (rises_from b v.rising) (λ x. counted x sets a u ∙ sym (counted x sets b v))

pub none_is_neutral : NoneIsNeutral
none_is_neutral a up = (by_counts (a ∷ [] ∷ []) a (both_rise a [] up none_rises) up (λ x. omega (arith, two x a [])), by_counts ([] ∷ a ∷ []) a (both_rise [] a none_rises up) up (λ x. omega (arith, two x [] a)))

pub order_does_not_matter : OrderDoesNotMatter
order_does_not_matter a b all u = by_counts (b ∷ a ∷ []) all (both_rise b a (first_rises b [] (rest_rise a (b ∷ []) u.sets_rise)) (first_rises a (b ∷ []) u.sets_rise)) u.rising (λ x. omega (arith, counted x (a ∷ b ∷ []) all u, two x a b, two x b a))

pub all_below : (n : ℕ) → All (λ y. y < n) (below n)
all_below zero = All-nil (λ y. y < 0)
all_below (suc n) = All-push (λ y. y < suc n) (below n) n (All-weaker (λ y. y < n) (λ y. y < suc n) (λ y lt. omega arith) (below n) (all_below n)) (omega arith)

pub below_rises : (n : ℕ) → IsStrictlyIncreasing (below n)
below_rises zero = λ k lt. absurd (omega arith)
below_rises (suc n) = rises_push (below n) n (below_rises n) (all_below n)

pub drawn_lists_unite : DrawnListsUnite
drawn_lists_unite lists m drawn = record { sets_rise = drawn.rising; rising = below_rises m; each_once = drawn.each_once }

-- ---- two sets of a union, united first

abbrev in_either : List ℕ → List ℕ → ℕ → Bool
in_either a b x = ltb 0 (times x a + times x b)

nothing : (x : ℕ) (b : Bool) → times x [] ≡ cond b (times x []) 0
nothing x b = grind arith

pub times_filter : (p : ℕ → Bool) (x : ℕ) (xs : List ℕ) → times x (filter p xs) ≡ cond (p x) (times x xs) 0
times_filter p x [] = nothing x (p x)
times_filter p x (y ∷ ys) = let rest = times_filter p x ys in grind (arith, common_steps, times_cons, rest)

pub united : (a b : List ℕ) (rest : List (List ℕ)) (all : List ℕ) → All IsStrictlyIncreasing (a ∷ b ∷ []) → All IsStrictlyIncreasing rest → IsStrictlyIncreasing all → ((x : ℕ) → times x all ≡ (times x a + times x b) + sum_by (times x) rest)
    → (u : List ℕ) × IsUnion (a ∷ b ∷ []) u × IsUnion (u ∷ rest) all
united a b rest all ups others up h =
    let p = in_either a b in
    let u = filter p all in
    let u_up = IsStrictlyIncreasing-filter p all up in
    let same : (x : ℕ) → times x u ≡ times x a + times x b = λ x. times_filter p x all ∙ both x in (
      u,
      by_counts (a ∷ b ∷ []) u ups u_up (λ x. same x ∙ sym (two x a b)),
      by_counts (u ∷ rest) all (All-cons IsStrictlyIncreasing u rest u_up others) up (λ x. h x ∙ ap (λ n. n + sum_by (times x) rest) (sym (same x)) ∙ sym (sum_by-cons (times x) u rest)),
    )
  where
    both : (x : ℕ) → cond (in_either a b x) (times x all) 0 ≡ times x a + times x b
    both x = grind (arith, common_steps, h x, once_rising x all (rises_from all up))

pub unite_from_either_side : UniteFromEitherSide
unite_from_either_side a b c ab all u v =
    let a_up = first_rises a (b ∷ []) u.sets_rise in
    let b_up = first_rises b [] (rest_rise a (b ∷ []) u.sets_rise) in
    let c_up = first_rises c [] (rest_rise ab (c ∷ []) v.sets_rise) in
    let r = united b c (a ∷ []) all (both_rise b c b_up c_up) (All-cons IsStrictlyIncreasing a [] a_up (All-nil IsStrictlyIncreasing)) v.rising (λ x. counted x (ab ∷ c ∷ []) all v ∙ two x ab c ∙ ap (λ n. n + times x c) (counted x (a ∷ b ∷ []) ab u ∙ two x a b) ∙ turned x) in
    (r.0, r.1, by_counts (a ∷ r.0 ∷ []) all (both_rise a r.0 a_up r.1.rising) v.rising (λ x. counted x (r.0 ∷ a ∷ []) all r.2 ∙ two x r.0 a ∙ omega (arith, two x a r.0)))
  where
    turned : (x : ℕ) → (times x a + times x b) + times x c ≡ (times x b + times x c) + sum_by (times x) (a ∷ [])
    turned x = omega (arith, sum_by-cons (times x) a [])
