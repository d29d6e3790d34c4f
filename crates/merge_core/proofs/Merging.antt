-- Pieces that are joined one after another.
use Rattle.lemmas.proofs.{◌≡◌, ℕ, ◌+◌, List, [], ◌∷◌, ◌++◌, ap, ◌∙◌, subst, arith, reverse, sym, ◌⊎◌, zero, suc, ◌<◌, ◌≤◌, length, Option, None, Some, refl, inl, inr, ⊎_elim, slice_get, nat_le, reverse-append, reverse-reverse, sum_by-cons, cases_lt, cond-false, cond-true, le-leb, le_or_lt, lt-leb, slice_get_within}
use Rattle.rdf_values.specs.{IsUnion, times, AreInEntryOrder, Fault, first_in, least_fault, lesser_fault}
use Rattle.rdf_values.proofs.UnionLemmas.{counted, united, first_rises, rest_rise, both_rise, alone, times_append}
use Rattle.merge_core.specs.{Stand}

module _ {P : Type 0} (stands : List ℕ → P → Type 0) where
  -- what is merged so far, and what is left, stand for all together
  pub record IsMerged (merged : P) (left : List P) (all : List ℕ) : Type 0 where
    pub done : List ℕ
    pub rest : List (List ℕ)
    pub here : stands done merged
    pub there : Stand stands rest left
    pub together : IsUnion (done ∷ rest) all

  -- the pieces stand last first in what is left
  pub merged_first : (sets : List (List ℕ)) (pieces now left : List P) (p : P) (all : List ℕ) → now ≡ reverse pieces → now ≡ left ++ p ∷ [] → Stand stands sets pieces → IsUnion sets all → IsMerged p (reverse left) all
  merged_first sets pieces now left p all turned is h u = go sets (subst (Stand stands sets) (sym (reverse-reverse pieces) ∙ ap reverse (sym turned ∙ is) ∙ reverse-append left (p ∷ [])) h) u
    where
      go : (sets : List (List ℕ)) → Stand stands sets (p ∷ reverse left) → IsUnion sets all → IsMerged p (reverse left) all
      go [] h u = elim h [ ]
      go (s ∷ ss) h u = record { done = s; rest = ss; here = h.0; there = h.1; together = u }

  -- the sets of the next two, and their union
  pub next : (merged p : P) (pieces left : List P) (all : List ℕ) → pieces ≡ left ++ p ∷ [] → IsMerged merged (reverse pieces) all
      → (mine theirs both : List ℕ) × stands mine merged × stands theirs p × IsUnion (mine ∷ theirs ∷ []) both × ((now : P) → stands both now → IsMerged now (reverse left) all)
  next merged p pieces left all is m = go m.rest (subst (Stand stands m.rest) (ap reverse is ∙ reverse-append left (p ∷ [])) m.there) m.together
    where
      go : (rest : List (List ℕ)) → Stand stands rest (p ∷ reverse left) → IsUnion (m.done ∷ rest) all
          → (mine theirs both : List ℕ) × stands mine merged × stands theirs p × IsUnion (mine ∷ theirs ∷ []) both × ((now : P) → stands both now → IsMerged now (reverse left) all)
      go [] h u = elim h [ ]
      go (s ∷ ss) h u =
          let ups = rest_rise m.done (s ∷ ss) u.sets_rise in
          let v = united m.done s ss all (both_rise m.done s (first_rises m.done (s ∷ ss) u.sets_rise) (first_rises s ss ups)) (rest_rise s ss ups) u.rising
          (λ x. omega (arith, counted x (m.done ∷ s ∷ ss) all u, sum_by-cons (times x) m.done (s ∷ ss), sum_by-cons (times x) s ss)) in
          (m.done, s, v.0, m.here, h.0, v.1, λ now is. record { done = v.0; rest = ss; here = is; there = h.1; together = v.2 })

  -- nothing is left
  pub merged_all : (merged : P) (all : List ℕ) → IsMerged merged [] all → stands all merged
  merged_all merged all m = go m.rest m.there m.together
    where
      go : (rest : List (List ℕ)) → Stand stands rest [] → IsUnion (m.done ∷ rest) all → stands all merged
      go [] h u = subst (λ s. stands s merged) (alone m.done all u) m.here
      go (s ∷ ss) h u = elim h [ ]

-- ---- the first fault, from what is known of the clusters that were drawn

-- it is one of the faults
abbrev pub Among : Fault → List Fault → Type 0
Among f [] = ⊥
Among f (g ∷ gs) = (f ≡ g) ⊎ Among f gs

pub among_left : (f : Fault) (fs gs : List Fault) → Among f fs → Among f (fs ++ gs)
among_left f [] gs h = elim h [ ]
among_left f (g ∷ fs) gs h = grind (arith, among_left f fs gs)

pub among_right : (f : Fault) (fs gs : List Fault) → Among f gs → Among f (fs ++ gs)
among_right f [] gs h = h
among_right f (g ∷ fs) gs h = inr (among_right f fs gs h)

pub among_either : (f : Fault) (fs gs : List Fault) → Among f (fs ++ gs) → Among f fs ⊎ Among f gs
among_either f [] gs h = inr h
among_either f (g ∷ fs) gs h = grind (arith, among_either f fs gs)

-- the least is one of them, and none lies lower
pub least_is : (f : Fault) (fs : List Fault) → (g : Fault) × (least_fault (f ∷ fs) ≡ Some g) × Among g (f ∷ fs) × ((h : Fault) → Among h (f ∷ fs) → g.entry ≤ h.entry)
least_is f [] = (f, refl, inl refl, λ h a. ⊎_elim (λ (e : h ≡ f). let same = ap (λ (x : Fault). x.entry) e in omega arith) (λ (n : ⊥). absurd n) a)
least_is f (k ∷ ks) =
    let r = least_is k ks in
    elim (le_or_lt f.entry r.0.entry) [
      | inl le ↦ (f, ap (λ o. Some (lesser_fault f o)) r.1 ∙ ap Some (cond-true (nat_le f.entry r.0.entry) f r.0 (le-leb f.entry r.0.entry le)), inl refl, λ h a. ⊎_elim (λ (e : h ≡ f). let same = ap (λ (x : Fault). x.entry) e in omega arith) (λ (in' : Among h (k ∷ ks)). let more = r.3 h in' in omega arith) a)
      | inr lt ↦ (r.0, ap (λ o. Some (lesser_fault f o)) r.1 ∙ ap Some (cond-false (nat_le f.entry r.0.entry) f r.0 (lt-leb f.entry r.0.entry lt)), inr r.2, λ h a. ⊎_elim (λ (e : h ≡ f). let same = ap (λ (x : Fault). x.entry) e in omega arith) (λ (in' : Among h (k ∷ ks)). r.3 h in') a)
    ]

none_first : (faults : List (Option Fault)) → ((c : ℕ) → c < length faults → slice_get faults c ≡ Some None) → first_in faults ≡ None
none_first [] h = refl
none_first (None ∷ fs) h = none_first fs (λ c lt. h (suc c) (omega arith))
none_first (Some f ∷ fs) h = cc (h 0 (omega arith))

first_at : (faults : List (Option Fault)) (c : ℕ) (f : Fault) → slice_get faults c ≡ Some (Some f) → ((j : ℕ) → j < c → slice_get faults j ≡ Some None) → first_in faults ≡ Some f
first_at [] c f at before = absurd (cc)
first_at (None ∷ fs) zero f at before = absurd (cc)
first_at (None ∷ fs) (suc c) f at before = first_at fs c f at (λ j lt. before (suc j) (omega arith))
first_at (Some g ∷ fs) zero f at before = (cc)
first_at (Some g ∷ fs) (suc c) f at before = let e = before 0 (omega arith) in absurd (cc)

-- what is known of the clusters that were drawn: each that lies below the bar has no fault, or one of these; and each of these is the fault of one
pub record Told (faults : List (Option Fault)) (bar : ℕ) (drawn : List ℕ) (mine : List Fault) : Type 0 where
  pub sound : (c : ℕ) → 0 < times c drawn → c < bar → (slice_get faults c ≡ Some None) ⊎ ((f : Fault) × Among f mine × (slice_get faults c ≡ Some (Some f)))
  pub own : (f : Fault) → Among f mine → (c : ℕ) × (0 < times c drawn) × (slice_get faults c ≡ Some (Some f))

-- the bar isn't below the first fault: it is the number of clusters, or at a cluster with one of these faults
abbrev pub Reaches : List (Option Fault) → ℕ → List Fault → Type 0
Reaches faults bar mine = (length faults ≤ bar) ⊎ ((g : Fault) × Among g mine × (slice_get faults bar ≡ Some (Some g)))

-- where the numbers below m are drawn, the fault at the least entry is the first
pub first_told : (faults : List (Option Fault)) (bar m : ℕ) (drawn : List ℕ) (mine : List Fault)
    → AreInEntryOrder faults → Told faults bar drawn mine → Reaches faults bar mine
    → ((c : ℕ) → c < m → 0 < times c drawn) → ((c : ℕ) → 0 < times c drawn → c < m) → (mine ≡ [] → length faults ≤ m)
    → least_fault mine ≡ first_in faults
first_told faults bar m drawn [] order told reaches all only enough =
    let long = enough refl in
    let high = ⊎_elim (λ (le : length faults ≤ bar). le) (λ (g : (g : Fault) × ⊥ × (slice_get faults bar ≡ Some (Some g))). absurd g.1) reaches in
    sym (none_first faults (λ c lt. ⊎_elim (λ (none : slice_get faults c ≡ Some None). none) (λ (x : (f : Fault) × ⊥ × (slice_get faults c ≡ Some (Some f))). absurd x.1) (told.sound c (all c (omega arith)) (omega arith))))
first_told faults bar m drawn (g ∷ gs) order told reaches all only enough =
    let least = least_is g gs in
    let f = least.0 in
    let own = told.own f least.2 in
    let c = own.0 in
    let within = slice_get_within faults c (Some f) own.2 in
    let below_bar : c ≤ bar = grind (arith, reaches, order bar c, own.2, least.3) in
    let m_above = only c own.1 in
    least.1 ∙ sym (first_at faults c f own.2 (λ j lt. grind (arith, told.sound j (all j (omega arith)) (omega arith), order j c, own.2, least.3)))

pub told_nothing : (faults : List (Option Fault)) (bar : ℕ) → Told faults bar [] []
told_nothing faults bar = record { sound = λ c more lt. absurd (omega arith); own = λ f h. elim h [ ] }

pub told_both : (faults : List (Option Fault)) (bar : ℕ) (drawn more : List ℕ) (mine others : List Fault) → Told faults bar drawn mine → Told faults bar more others → Told faults bar (drawn ++ more) (mine ++ others)
told_both faults bar drawn more mine others t u = record {
  sound = λ c some lt. grind (arith, cases_lt 0 (times c drawn), times_append c drawn more, t.sound c, u.sound c, among_left, among_right);
  own = λ f h. ⊎_elim
      (λ (a : Among f mine). let r = t.own f a in (r.0, omega (arith, r.1, times_append r.0 drawn more), r.2))
      (λ (b : Among f others). let r = u.own f b in (r.0, omega (arith, r.1, times_append r.0 drawn more), r.2))
      (among_either f mine others h);
}
