-- The ranges of clusters: of one size, by their ends, one behind the other, and along marks.
use Rattle.lemmas.proofs.{◌≡◌, ◌≤◌, ◌<◌, ◌+◌, ◌*◌, ◌/◌, ℕ, List, [], length, min, Some, arith, refl, ◌∙◌, ap, slice_get, ◌≢◌, ◌-◌, zero, suc, true, false, leb, ◌∷◌, ◌++◌, get_or, sym, ◌⊎◌, inl, inr, if◌then◌else◌, Bool, nat_eq, nat_lt, div_ceil, div_ceil_times, length-map, mul-le, mul_comm, slice_get-map, AllWithin, le_or_lt, nat_tests, IsNonDecreasingBy, lt_or_le, AllPairs-from_increasing, Decides-eqb, IsStrictlyIncreasing, append-nil, false_from_ne_true, get_or_default, list_any, list_any_at, list_any_none, or_from, or_left, or_right}
use native.Mathlib.Nat.{add-mul}
use Rattle.rdf_values.proofs.UnionLemmas.{length-below, slice_get-below}
use Rattle.rdf_values.proofs.Evenly.{unmarked_cuts_are_even, cuts_lead}
use Rattle.rdf_values.specs.{below, cut, even_cut, Lead, Span, begins_at, cut_from}
use Rattle.columns.specs.{Holds, ranges_to, IsInOne, IsAhead, IsPassed}
use Rattle.columns.proofs.BlockSteps.{span_within}

pub length-even : (n size : ℕ) → length (even_cut n size) ≡ div_ceil n size
length-even n size = length-map (below (div_ceil n size)) _ ∙ length-below (div_ceil n size)

-- without marks the clusters have one size
pub is_even : (n size : ℕ) (marks : List ℕ) → 1 ≤ size → marks ≡ [] → cut n size marks ≡ even_cut n size
is_even n size marks s e = ap (cut n size) e ∙ unmarked_cuts_are_even n size s

pub starts_below : (n size cluster : ℕ) → 1 ≤ size → cluster < div_ceil n size → cluster * size < n
starts_below n size cluster s h = grind (arith, div_ceil_times, mul-le)

pub even_at : (n size cluster : ℕ) → cluster < div_ceil n size → slice_get (even_cut n size) cluster ≡ Some (record { lo = cluster * size; hi = min ((cluster + 1) * size) n })
even_at n size cluster h = slice_get-map _ (below (div_ceil n size)) cluster ∙ rw (slice_get-below (div_ceil n size) cluster h) refl

-- an entry is held by the cluster whose number is the entry by the size
pub even_holds : (n size entry cluster : ℕ) → 1 ≤ size → entry < n → cluster * size ≤ entry → entry < (cluster + 1) * size → Holds (even_cut n size) entry cluster
even_holds n size entry cluster s h from below =
    let all = div_ceil_times n size s in
    record { range = record { lo = cluster * size; hi = min ((cluster + 1) * size) n }; stands = even_at n size cluster (there (div_ceil n size) all.0); from = from; below = omega (arith, h, below) }
  where
    there : (m : ℕ) → n ≤ m * size → cluster < m
    there m big = grind (arith, mul-le)

pub div_low : (x n : ℕ) → 1 ≤ n → x / n * n ≤ x
div_low x n h = omega (arith, mul_comm (x / n) n)

pub div_high : (x n : ℕ) → 1 ≤ n → x < (x / n + 1) * n
div_high x n h = omega (arith, mul_comm (x / n) n, add-mul (x / n) 1 n)

-- ---- Ranges by their ends.

pub length-ranges_to : (ends : List ℕ) (lo : ℕ) → length (ranges_to lo ends) ≡ length ends
length-ranges_to [] lo = refl
length-ranges_to (x ∷ xs) lo = ap suc (length-ranges_to xs x)

-- the range at a place, and that there is one only where there is an end
pub ranges_at : (ends : List ℕ) (lo place : ℕ) → place < length ends → slice_get (ranges_to lo ends) place ≡ Some (record { lo = get_or (lo ∷ ends) place 0; hi = get_or ends place 0 })
ranges_at [] lo place h = absurd (omega (arith, h))
ranges_at (x ∷ xs) lo zero h = refl
ranges_at (x ∷ xs) lo (suc place) h = ranges_at xs x place (omega (arith, h))

pub ranges_within : (ends : List ℕ) (lo place : ℕ) (r : Span) → slice_get (ranges_to lo ends) place ≡ Some r → place < length ends
ranges_within [] lo place r h = cc h
ranges_within (x ∷ xs) lo zero r h = omega arith
ranges_within (x ∷ xs) lo (suc place) r h = let more = ranges_within xs x place r h in omega (arith, more)

-- one more range
abbrev pub last_or : ℕ → List ℕ → ℕ
last_or lo [] = lo
last_or lo (x ∷ xs) = last_or x xs

pub ranges_push : (ends : List ℕ) (lo hi : ℕ) (rest : List Span) → ranges_to lo (ends ++ hi ∷ []) ++ rest ≡ ranges_to lo ends ++ record { lo = last_or lo ends; hi = hi } ∷ rest
ranges_push [] lo hi rest = refl
ranges_push (x ∷ xs) lo hi rest = ap (λ l. record { lo = lo; hi = x } ∷ l) (ranges_push xs x hi rest)

pub last_push : (ends : List ℕ) (lo hi : ℕ) → last_or lo (ends ++ hi ∷ []) ≡ hi
last_push [] lo hi = refl
last_push (x ∷ xs) lo hi = last_push xs x hi

-- the ends rise
above : (ends : List ℕ) (lo to : ℕ) → Lead lo to (ranges_to lo ends) → (j d : ℕ) → j < length ends → lo < get_or ends j d
above [] lo to h j d l = absurd (omega (arith, l))
above (x ∷ xs) lo to h zero d l = h.1
above (x ∷ xs) lo to h (suc j) d l = let more = above xs x to h.2 j d (omega (arith, l)) in let some = h.1 in omega (arith, more, some)

pub ends_rise : (ends : List ℕ) (lo to : ℕ) → Lead lo to (ranges_to lo ends) → (i j d : ℕ) → i ≤ j → j < length ends → get_or ends i d ≤ get_or ends j d
ends_rise (x ∷ xs) lo to h zero (suc j) d le l = let more = above xs x to h.2 j d (omega (arith, l)) in omega (arith, more)
ends_rise (x ∷ xs) lo to h (suc i) (suc j) d le l = ends_rise xs x to h.2 i j d (omega (arith, le)) (omega (arith, l))
ends_rise xs lo to h i j d le l = grind arith

first_by : (ends : List ℕ) (i number place : ℕ) → ((k : ℕ) → k < i → get_or ends k 0 ≤ number) → ((k : ℕ) → i ≤ k → k < length ends → number < get_or ends k 0) → place < length ends
    → get_or (0 ∷ ends) place 0 ≤ number → number < get_or ends place 0 → i ≡ place
first_by ends i number place low high l from h = grind (arith, le_or_lt)

pub first_above : (ends : List ℕ) (i number place : ℕ) → AllWithin (λ x. leb x number ≡ true) ends 0 i → AllWithin (λ x. leb x number ≡ false) ends i (length ends) → Holds (ranges_to 0 ends) number place → i ≡ place
first_above ends i number place low high held = grind (arith, ranges_within, ranges_at, first_by, nat_tests)

pub first_range : (ends : List ℕ) (place : ℕ) → place ≡ 0 → place < length ends → slice_get (ranges_to 0 ends) place ≡ Some (record { lo = 0; hi = get_or ends place 0 })
first_range ends place e l = ranges_at ends 0 place l ∙ rw e refl

pub next_range : (ends : List ℕ) (place : ℕ) → place ≢ 0 → place < length ends → slice_get (ranges_to 0 ends) place ≡ Some (record { lo = get_or ends (place - 1) 0; hi = get_or ends place 0 })
next_range ends place n l = grind (arith, ranges_at)

-- ---- Ranges that follow one another hold each number once, and cuts whose ranges are kept by their ends.

first_holds : (x : Span) (xs : List Span) (number from to other : ℕ) → Lead from to (x ∷ xs) → number < x.hi → Holds (x ∷ xs) number other → other ≡ 0
first_holds x xs number from to other h l held = grind (arith, span_within)

later_holds : (x : Span) (xs : List Span) (number place other : ℕ) → x.hi ≤ number → ((o : ℕ) → Holds xs number o → o ≡ place) → Holds (x ∷ xs) number other → other ≡ suc place
later_holds x xs number place zero l one held = let same : x ≡ held.range = cc held.stands in absurd (omega (arith, held.below, ap (λ s. s.hi) same))
later_holds x xs number place (suc other) l one held = ap suc (one other (record { range = held.range; stands = held.stands; from = held.from; below = held.below }))

in_one_by : (x : Span) (xs : List Span) (from to number : ℕ) → Lead from to (x ∷ xs) → from ≤ number → number < to → IsInOne xs x.hi to → ((number < x.hi) ⊎ (x.hi ≤ number))
    → (place : ℕ) × Holds (x ∷ xs) number place × ((other : ℕ) → Holds (x ∷ xs) number other → other ≡ place)
in_one_by x xs from to number h a b later (inl l) =
    (0, record { range = x; stands = refl; from = (let at = h.0 in omega arith); below = l }, λ other held. first_holds x xs number from to other h l held)
in_one_by x xs from to number h a b later (inr r) =
    let one = later number r b in
    (suc one.0, record { range = one.1.range; stands = one.1.stands; from = one.1.from; below = one.1.below }, λ other held. later_holds x xs number one.0 other r one.2 held)

pub in_one : (rs : List Span) (from to : ℕ) → Lead from to rs → IsInOne rs from to
in_one [] from to h number a b = absurd (omega arith)
in_one (x ∷ xs) from to h number a b = in_one_by x xs from to number h a b (in_one xs x.hi to h.2) (lt_or_le number x.hi)

-- none is empty, so there are no more than numbers
pub few_ranges : (rs : List Span) (from to : ℕ) → Lead from to rs → length rs + from ≤ to
few_ranges [] from to h = omega (arith, h)
few_ranges (x ∷ xs) from to h = let more = few_ranges xs x.hi to h.2 in let some = h.1 in omega (arith, more, some)

-- ---- cuts by their ends

ends_lead : (ends : List ℕ) (n size : ℕ) (marks : List ℕ) → ranges_to 0 ends ≡ cut n size marks → Lead 0 n (ranges_to 0 ends)
ends_lead ends n size marks h = rw h (cuts_lead n size marks)

pub few_ends : (ends : List ℕ) (n size : ℕ) (marks : List ℕ) → ranges_to 0 ends ≡ cut n size marks → length ends ≤ n
few_ends ends n size marks h = let few = few_ranges (ranges_to 0 ends) 0 n (ends_lead ends n size marks h) in omega (arith, few, length-ranges_to ends 0)

pub as_many : (ends : List ℕ) (n size : ℕ) (marks : List ℕ) → ranges_to 0 ends ≡ cut n size marks → length ends ≡ length (cut n size marks)
as_many ends n size marks h = sym (length-ranges_to ends 0) ∙ ap length h

pub they_rise : (ends : List ℕ) (n size : ℕ) (marks : List ℕ) → ranges_to 0 ends ≡ cut n size marks → IsNonDecreasingBy (λ x. x) ends
they_rise ends n size marks h = ends_rise ends 0 n (ends_lead ends n size marks h)

pub holds_first : (ends : List ℕ) (n size : ℕ) (marks : List ℕ) (number i : ℕ) → ranges_to 0 ends ≡ cut n size marks → number < n → AllWithin (λ x. leb x number ≡ true) ends 0 i
    → AllWithin (λ x. leb x number ≡ false) ends i (length ends) → Holds (cut n size marks) number i
holds_first ends n size marks number i h l low high =
    let one = in_one (ranges_to 0 ends) 0 n (ends_lead ends n size marks h) number (omega arith) l in
    let same : i ≡ one.0 = first_above ends i number one.0 low high one.1 in
    rw (same, ← h) one.1

-- ---- One more entry of a walk along marks: marks

pub any_at : (xs : List ℕ) (e k : ℕ) → k < length xs → get_or xs k 0 ≡ e → list_any (nat_eq e) xs ≡ true
any_at xs e k l h = list_any_at (nat_eq e) xs k 0 l ((Decides-eqb e (get_or xs k 0)).1 (sym h))

pub any_none : (xs : List ℕ) (e : ℕ) → ((k : ℕ) → k < length xs → get_or xs k 0 ≢ e) → list_any (nat_eq e) xs ≡ false
any_none xs e h = list_any_none (nat_eq e) xs (λ k d l. false_from_ne_true (nat_eq e (get_or xs k d)) (λ q. h k l (get_or_default xs k 0 d l ∙ sym ((Decides-eqb e (get_or xs k d)).0 q))))

at_or_after : (next k : ℕ) → next ≤ k → (k ≡ next) ⊎ (next < k)
at_or_after next k h = grind arith

-- no mark is the entry, where the first that isn't below is not
pub not_marked : (marks : List ℕ) (next entry : ℕ) → IsStrictlyIncreasing marks → IsPassed marks next entry → IsAhead marks next entry → (next < length marks → get_or marks next 0 ≢ entry) → list_any (nat_eq entry) marks ≡ false
not_marked marks next entry rising passed ahead other = grind (arith, any_none, lt_or_le, at_or_after, AllPairs-from_increasing)

pub marked_is : (marks : List ℕ) (next entry : ℕ) → IsStrictlyIncreasing marks → IsPassed marks next entry → IsAhead marks next entry → next < length marks → nat_eq (get_or marks next 0) entry ≡ list_any (nat_eq entry) marks
marked_is marks next entry rising passed ahead l = grind (arith, list_any, any_at, not_marked)

pub none_left : (marks : List ℕ) (next entry : ℕ) → IsStrictlyIncreasing marks → IsPassed marks next entry → IsAhead marks next entry → length marks ≤ next → nat_lt next (length marks) ≡ list_any (nat_eq entry) marks
none_left marks next entry rising passed ahead l = grind (arith, nat_tests, not_marked)

pub ahead_one : (marks : List ℕ) (next entry : ℕ) → IsStrictlyIncreasing marks → IsAhead marks next (entry - 1) → next < length marks → IsAhead marks (next + 1) entry
ahead_one marks next entry rising ahead l = grind (arith, AllPairs-from_increasing)

pub ahead_still : (marks : List ℕ) (next entry : ℕ) → IsStrictlyIncreasing marks → (next < length marks → entry ≤ get_or marks next 0) → IsAhead marks next entry
ahead_still marks next entry rising h = grind (arith, at_or_after, AllPairs-from_increasing)

-- ---- the ranges so far

-- up to an entry the clusters end there, and the last began at lo
pub record Walked (n size : ℕ) (marks ends : List ℕ) (lo entry next : ℕ) : Type 0 where
  pub so_far : cut n size marks ≡ ranges_to 0 ends ++ cut_from size marks lo entry (n - entry)
  pub last : lo ≡ last_or 0 ends
  pub begun : lo < entry
  pub passed : IsPassed marks next entry
  pub ahead : IsAhead marks next (entry - 1)

pub walk_start : (n size : ℕ) (marks : List ℕ) → 0 < n → Walked n size marks [] 0 1 0
walk_start n size marks h = grind (arith, above)

passed_on : (marks : List ℕ) (next entry : ℕ) → IsPassed marks next entry → IsPassed marks next (entry + 1)
passed_on marks next entry p = record { below = λ k h. (let low = p.below k h in omega (arith, low)) }

ahead_on : (marks : List ℕ) (next entry : ℕ) → IsAhead marks next entry → IsAhead marks next (entry + 1 - 1)
ahead_on marks next entry a = record { above = λ k h l. (let low = a.above k h l in omega (arith, low)) }

fewer : (n entry : ℕ) → entry < n → n - entry ≡ suc (n - (entry + 1))
fewer n entry h = omega (arith, h)

cut_step : (size : ℕ) (marks : List ℕ) (lo entry r : ℕ) (b : Bool) → begins_at size marks lo entry ≡ b
    → cut_from size marks lo entry (suc r) ≡ (if b then record { lo = lo; hi = entry } ∷ cut_from size marks entry (entry + 1) r else cut_from size marks lo (entry + 1) r)
cut_step size marks lo entry r b h = let next : suc entry ≡ entry + 1 = omega arith in rw (h, next) refl

off_size : (lo entry size : ℕ) → lo < entry → entry - lo ≢ size → nat_eq entry (lo + size) ≡ false
off_size lo entry size l h = false_from_ne_true (nat_eq entry (lo + size)) (λ q. h (let e = (Decides-eqb entry (lo + size)).0 q in omega (arith, e)))

-- a cluster begins at the entry
abbrev pub Begins : ℕ → ℕ → List ℕ → ℕ → Type 0
Begins size lo marks entry = (list_any (nat_eq entry) marks ≡ true) ⊎ (entry - lo ≡ size)

pub walk_begin : (n size : ℕ) (marks ends : List ℕ) (lo entry old next : ℕ) → Walked n size marks ends lo entry old → entry < n → IsPassed marks next entry → IsAhead marks next entry → Begins size lo marks entry
    → Walked n size marks (ends ++ entry ∷ []) entry (entry + 1) next
walk_begin n size marks ends lo entry old next w h p a b = grind (arith, fewer, ranges_push, last_push, above, or_right, list_any, or_left)

pub walk_on : (n size : ℕ) (marks ends : List ℕ) (lo entry old next : ℕ) → Walked n size marks ends lo entry old → entry < n → IsPassed marks next entry → IsAhead marks next entry → list_any (nat_eq entry) marks ≡ false → entry - lo ≢ size
    → Walked n size marks ends lo (entry + 1) next
walk_on n size marks ends lo entry old next w h p a m s = grind (arith, fewer, cut_step, or_from, list_any, off_size, passed_on, ahead_on)

pub walk_end : (n size : ℕ) (marks ends : List ℕ) (lo entry next : ℕ) → Walked n size marks ends lo entry next → entry ≡ n → ranges_to 0 (ends ++ n ∷ []) ≡ cut n size marks
walk_end n size marks ends lo entry next w h = grind (arith, append-nil, ranges_push)
