-- Spans in order that hold each cluster once follow one another.
use Rattle.lemmas.proofs.{◌≡◌, ◌⊎◌, inl, inr, ℕ, ◌+◌, ◌<◌, ◌≤◌, Bool, true, false, ◌&&◌, List, [], ◌∷◌, cond, refl, sym, ap, ap₂, ◌∙◌, arith, if◌then◌else◌, ⊎_elim, nat_le, nat_lt, cases_lt, nat_tests, sum_by-cons}
use Rattle.std.specs.Prelude.{⊤}
use Rattle.shard_files.specs.{in_order, not_behind, placed, ShardView, spans_with}

-- ---- in order by their first clusters

abbrev pub AllFrom : ℕ → List ShardView → Type 0
AllFrom a [] = ⊤
AllFrom a (t ∷ ts) = (a ≤ t.lo) × AllFrom a ts

abbrev pub AreSorted : List ShardView → Type 0
AreSorted [] = ⊤
AreSorted (s ∷ ss) = AllFrom s.lo ss × AreSorted ss

all_lower : (a b : ℕ) (ts : List ShardView) → a ≤ b → AllFrom b ts → AllFrom a ts
all_lower a b [] le h = tt
all_lower a b (t ∷ ts) le h = let first = h.0 in (omega arith, all_lower a b ts le h.1)

before_is : (s t : ShardView) → not_behind s t ≡ true → s.lo ≤ t.lo
before_is s t h = grind (arith, nat_tests, h)

behind_is : (s t : ShardView) → not_behind s t ≡ false → t.lo ≤ s.lo
behind_is s t h = grind (arith, nat_tests, h)

placed_from : (a : ℕ) (s : ShardView) (ts : List ShardView) → a ≤ s.lo → AllFrom a ts → AllFrom a (placed s ts)
placed_from a s [] le h = (le, tt)
placed_from a s (t ∷ ts) le h = go (not_behind s t) (placed_from a s ts le h.1)
  where
    go : (b : Bool) → AllFrom a (placed s ts) → AllFrom a (if b then s ∷ t ∷ ts else t ∷ placed s ts)
    go true k = (le, h)
    go false k = (h.0, k)

placed_sorted : (s : ShardView) (ts : List ShardView) → AreSorted ts → AreSorted (placed s ts)
placed_sorted s [] h = (tt, tt)
placed_sorted s (t ∷ ts) h = go (not_behind s t) refl (placed_sorted s ts h.1)
  where
    go : (b : Bool) → not_behind s t ≡ b → AreSorted (placed s ts) → AreSorted (if b then s ∷ t ∷ ts else t ∷ placed s ts)
    go true q k = let le = before_is s t q in ((le, all_lower s.lo t.lo ts le h.0), h)
    go false q k = (placed_from t.lo s ts (behind_is s t q) h.0, k)

pub order_sorted : (ss : List ShardView) → AreSorted (in_order ss)
order_sorted [] = tt
order_sorted (s ∷ ss) = placed_sorted s (in_order ss) (order_sorted ss)

-- ---- what each of them meets

module _ (P : ShardView → Type 0) where
  abbrev pub Each : List ShardView → Type 0
  Each [] = ⊤
  Each (s ∷ ss) = P s × Each ss

  placed_each : (s : ShardView) (ts : List ShardView) → P s → Each ts → Each (placed s ts)
  placed_each s [] h k = (h, tt)
  placed_each s (t ∷ ts) h k = go (not_behind s t) (placed_each s ts h k.1)
    where
      go : (b : Bool) → Each (placed s ts) → Each (if b then s ∷ t ∷ ts else t ∷ placed s ts)
      go true r = (h, k)
      go false r = (k.0, r)

  pub order_each : (ss : List ShardView) → Each ss → Each (in_order ss)
  order_each [] h = tt
  order_each (s ∷ ss) h = placed_each s (in_order ss) h.0 (order_each ss h.1)

-- ---- in how many a cluster is

abbrev in_span : ℕ → ShardView → ℕ
in_span c s = cond (nat_le s.lo c && nat_lt c s.hi) 1 0

with_first : (c : ℕ) (s : ShardView) (ss : List ShardView) → spans_with c (s ∷ ss) ≡ in_span c s + spans_with c ss
with_first c s ss = sum_by-cons (λ (t : ShardView). cond (nat_le t.lo c && nat_lt c t.hi) 1 0) s ss

inside : (c : ℕ) (s : ShardView) → s.lo ≤ c → c < s.hi → in_span c s ≡ 1
inside c s a b = (let e : (nat_le s.lo c && nat_lt c s.hi) ≡ true = grind (arith, nat_tests, a, b) in ap (λ x. cond x 1 0) e)

below_it : (c : ℕ) (s : ShardView) → c < s.lo → in_span c s ≡ 0
below_it c s a = (let e : (nat_le s.lo c && nat_lt c s.hi) ≡ false = grind (arith, nat_tests, a) in ap (λ x. cond x 1 0) e)

above_it : (c : ℕ) (s : ShardView) → s.hi ≤ c → in_span c s ≡ 0
above_it c s a = (let e : (nat_le s.lo c && nat_lt c s.hi) ≡ false = grind (arith, nat_tests, a) in ap (λ x. cond x 1 0) e)

none_before : (c a : ℕ) (ss : List ShardView) → AllFrom a ss → c < a → spans_with c ss ≡ 0
none_before c a [] h lt = refl
none_before c a (s ∷ ss) h lt = let from = h.0 in with_first c s ss ∙ ap₂ (λ x y. x + y) (below_it c s (omega arith)) (none_before c a ss h.1 lt)

placed_with : (c : ℕ) (s : ShardView) (ts : List ShardView) → spans_with c (placed s ts) ≡ in_span c s + spans_with c ts
placed_with c s [] = with_first c s []
placed_with c s (t ∷ ts) = go (not_behind s t) (placed_with c s ts)
  where
    go : (b : Bool) → spans_with c (placed s ts) ≡ in_span c s + spans_with c ts → spans_with c (if b then s ∷ t ∷ ts else t ∷ placed s ts) ≡ in_span c s + spans_with c (t ∷ ts)
    go true k = with_first c s (t ∷ ts)
    go false k = let first = with_first c t (placed s ts) in let other = with_first c t ts in omega (arith, k, first, other)

pub order_with : (c : ℕ) (ss : List ShardView) → spans_with c (in_order ss) ≡ spans_with c ss
order_with c [] = refl
order_with c (s ∷ ss) = placed_with c s (in_order ss) ∙ ap (λ k. in_span c s + k) (order_with c ss) ∙ sym (with_first c s ss)

-- ---- they follow one another

-- from the cluster at to the end: each span is empty, or begins where those before it end
abbrev pub Follow : ℕ → ℕ → List ShardView → Type 0
Follow n at [] = at ≡ n
Follow n at (s ∷ ss) = ((s.lo ≡ s.hi) × Follow n at ss) ⊎ ((s.lo ≡ at) × (at < s.hi) × Follow n s.hi ss)

abbrev pub IsWithin : ℕ → ShardView → Type 0
IsWithin n s = (s.lo ≤ s.hi) × (s.hi ≤ n)

pub they_follow : (n at : ℕ) (ss : List ShardView) → AreSorted ss → Each (IsWithin n) ss → at ≤ n → ((c : ℕ) → at ≤ c → c < n → spans_with c ss ≡ 1) → ((c : ℕ) → c < at → spans_with c ss ≡ 0) → Follow n at ss
they_follow n at [] sorted within le once none = ⊎_elim (λ (lt : at < n). let one : 0 ≡ 1 = once at (omega arith) lt in absurd (omega (arith, one))) (λ (ge : n ≤ at). omega arith) (cases_lt at n)
they_follow n at (s ∷ ss) sorted within le once none = ⊎_elim
    (λ (lt : s.lo < s.hi). inr (filled lt (λ o z. they_follow n s.hi ss sorted.1 within.1 within.0.1 o z)))
    (λ (ge : s.hi ≤ s.lo).
    let up = within.0.0 in
    let empty : (c : ℕ) → in_span c s ≡ 0 = λ c. ⊎_elim (λ (l : c < s.lo). below_it c s l) (λ (g : s.lo ≤ c). above_it c s (omega arith)) (cases_lt c s.lo) in
    inl (
      omega arith,
      they_follow n at ss sorted.1 within.1 le
          (λ c a b. let one = once c a b in let first = with_first c s ss in let no = empty c in omega (arith, one, first, no))
          (λ c a. let zero_too = none c a in let first = with_first c s ss in omega (arith, zero_too, first)),
    ))
    (cases_lt s.lo s.hi)
  where
    begins : s.lo < s.hi → s.lo ≡ at
    begins lt =
        let top = within.0.1 in
        ⊎_elim
        (λ (low : s.lo < at). let no = none s.lo low in let first = with_first s.lo s ss in let one = inside s.lo s (omega arith) lt in absurd (omega (arith, no, first, one)))
        (λ (high : at ≤ s.lo). ⊎_elim
        (λ (gap : at < s.lo). let one = once at (omega arith) (omega arith) in let first = with_first at s ss in let not_here = below_it at s gap in let nor_behind = none_before at s.lo ss sorted.0 gap in absurd (omega (arith, one, first, not_here, nor_behind)))
        (λ (same : s.lo ≤ at). omega arith) (cases_lt at s.lo))
        (cases_lt s.lo at)

    filled : s.lo < s.hi → (((c : ℕ) → s.hi ≤ c → c < n → spans_with c ss ≡ 1) → ((c : ℕ) → c < s.hi → spans_with c ss ≡ 0) → Follow n s.hi ss) → (s.lo ≡ at) × (at < s.hi) × Follow n s.hi ss
    filled lt next =
        let here = begins lt in
        let top = within.0.1 in (
          here,
          omega arith,
          next
              (λ c a b. let one = once c (omega arith) b in let first = with_first c s ss in let no = above_it c s a in omega (arith, one, first, no))
              (λ c a. ⊎_elim
              (λ (low : c < s.lo). none_before c s.lo ss sorted.0 low)
              (λ (high : s.lo ≤ c). let one = once c (omega arith) (omega arith) in let first = with_first c s ss in let yes = inside c s high a in omega (arith, one, first, yes))
              (cases_lt c s.lo)),
        )
