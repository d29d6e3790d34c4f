-- What slots tell once all have stopped.
use Rattle.lemmas.proofs.{◌≡◌, ◌⊎◌, ℕ, zero, suc, ◌<◌, ◌≤◌, min, List, [], ◌∷◌, ◌++◌, length, map, Option, None, Some, refl, sym, ap, ap₂, ◌∙◌, subst, inl, inr, ⊎_elim, arith, flat_map, slice_get, IfSome, IsSomeAnd, All, All-append, All-cons, All-head, All-nil, All-tail, cases_lt, concat, map-append, slice_get-get_or}
use Rattle.rdf_values.specs.{DrawnBy, Fault, first_in, least_fault, once_below, times}
use Rattle.rdf_values.proofs.UnionLemmas.{times_concat, times_push, counts_by_drawn, once_inside, inside_once, times_self}
use Rattle.merge_core.proofs.Merging.{Among, Told, told_nothing, told_both, first_told, among_left, among_right}
use Rattle.merge_core.proofs.Holding.{only}
use Rattle.slot_words.specs.{ClaimsSeen, IsLeast, IsPassed, last_of, MetBar, RanOut, SeatSeen}
use Rattle.snapshot_pieces.specs.{AreFacts, AreMade, clusters_of, end_faults, fault_of, Finished, HasAll, HasMemory, HasStopped, IsPieceOf, IsServed, TextPiece, pieces_in, pieces_of, seat_in, SnapFacts, Stopped}
use Rattle.snapshot_pieces.specs.declared.finished.End.{End}
use Rattle.snapshot_pieces.specs.declared.finished.End.TheVariants.{Over, Faulted, NoMemory}

-- the clusters that each slot drew
abbrev pub drawn_in : List Finished → List (List ℕ)
drawn_in fs = map (λ (s : SeatSeen). s.drawn) (map seat_in fs)

-- what is known of the number with which a slot ran out
abbrev pub IsKept : ℕ → ℕ → SeatSeen → Type 0
IsKept clusters word s = IfSome s.kept (λ k. (clusters ≤ k) × (k < word))

module _ (c : ClaimsSeen) (facts : SnapFacts) (bar : ℕ) where
  abbrev pub Ran : Finished → Type 0
  Ran f = HasStopped c facts f

  -- the last of a list, which isn't among the others
  last_is : (k n : ℕ) (done drawn : List ℕ) → drawn ≡ done ++ n ∷ [] → 0 < times k drawn → times k done ≤ 0 → n ≡ k
  last_is k n done drawn is some none = only k n (omega (arith, ap (times k) is, times_push k done n))

  passed_above : (seat : SeatSeen) (last : ℕ) → seat.passed ≡ Some last → IsPassed bar seat → bar ≤ last
  passed_above seat last is h = (subst (λ (o : Option ℕ). IfSome o (λ p. (bar ≤ p) × (0 < length seat.drawn) × (p ≡ last_of seat.drawn))) is h).0

  over_sound : (seat : SeatSeen) (ps : List TextPiece) (k : ℕ) → AreMade facts ps → RanOut c seat (clusters_of ps) ⊎ MetBar c seat (clusters_of ps) → IsPassed bar seat → 0 < times k seat.drawn → k < bar → slice_get facts.faults k ≡ Some None
  over_sound seat ps k made how passed some lt = ⊎_elim
      (λ (r : RanOut c seat (clusters_of ps)). made.sound k (subst (λ (l : List ℕ). 0 < times k l) r.all some))
      (λ (m : MetBar c seat (clusters_of ps)). ⊎_elim
      (λ (here : 0 < times k (clusters_of ps)). made.sound k here)
      (λ (none : times k (clusters_of ps) ≤ 0).
      let same = last_is k m.last (clusters_of ps) seat.drawn m.others some none in
      let above = passed_above seat m.last m.passed passed in
      absurd (omega arith))
      (cases_lt 0 (times k (clusters_of ps))))
      how

  slot_told : (end : End) (seat : SeatSeen) → Stopped c facts end seat → IsServed end → IsPassed bar seat → Told facts.faults bar seat.drawn (fault_of end)
  slot_told (Over ps) seat stopped served passed = record { sound = λ k some lt. inl (over_sound seat ps k stopped.0 stopped.1 passed some lt); own = λ f a. elim a [ ] }
  slot_told (Faulted g) seat met served passed =
      record {
        sound = λ k some lt. ⊎_elim
            (λ (here : 0 < times k met.done). inl (met.sound k here))
            (λ (none : times k met.done ≤ 0).
            inr (g, inl refl, subst (λ (j : ℕ). slice_get facts.faults j ≡ Some (Some g)) (last_is k met.last met.done seat.drawn met.others some none) met.its_fault))
            (cases_lt 0 (times k met.done));
        own = λ f a. ⊎_elim
            (λ (e : f ≡ g). (met.last, omega (arith, ap (times met.last) met.others, times_push met.last met.done met.last, times_push met.last [] met.last, times_self met.last []), met.its_fault ∙ ap (λ (k : Fault). Some (Some k)) (sym e)))
            (λ (n : ⊥). absurd n)
            a;
      }
  slot_told NoMemory seat stopped served passed = elim served [ ]

  slots_told : (fs : List Finished) → All Ran fs → All HasMemory fs → All (IsPassed bar) (map seat_in fs) → Told facts.faults bar (concat (drawn_in fs)) (end_faults fs)
  slots_told [] ran memory passed = told_nothing facts.faults bar
  slots_told (f ∷ fs) ran memory passed =
      told_both facts.faults bar f.seat.drawn (concat (drawn_in fs)) (fault_of f.end) (end_faults fs)
      (slot_told f.end f.seat (All-head Ran f fs ran).stopped (All-head HasMemory f fs memory) (All-head (IsPassed bar) (seat_in f) (map seat_in fs) passed))
      (slots_told fs (All-tail Ran f fs ran) (All-tail HasMemory f fs memory) (All-tail (IsPassed bar) (seat_in f) (map seat_in fs) passed))

  -- a slot that lowered the bar to it met a fault there
  abbrev IsReached : List Fault → Type 0
  IsReached mine = (g : Fault) × Among g mine × (slice_get facts.faults bar ≡ Some (Some g))

  one_lowered : (end : End) (seat : SeatSeen) → Stopped c facts end seat → IsServed end → seat.lowered ≡ Some bar → IsReached (fault_of end)
  one_lowered (Over ps) seat stopped served is = (let none = stopped.2 in absurd (cc))
  one_lowered (Faulted g) seat met served is =
      let same : met.last ≡ bar = told_same met.last (sym met.lowered ∙ is) in
      (g, inl refl, subst (λ (j : ℕ). slice_get facts.faults j ≡ Some (Some g)) same met.its_fault)
    where
      told_same : (n : ℕ) → Some n ≡ Some bar → n ≡ bar
      told_same n e = cc
  one_lowered NoMemory seat stopped served is = elim served [ ]

  reached_at : (fs : List Finished) (k : ℕ) → All Ran fs → All HasMemory fs → slice_get (map (λ (s : SeatSeen). s.lowered) (map seat_in fs)) k ≡ Some (Some bar) → IsReached (end_faults fs)
  reached_at [] k ran memory h = absurd (cc)
  reached_at (f ∷ fs) zero ran memory h =
      let r = one_lowered f.end f.seat (All-head Ran f fs ran).stopped (All-head HasMemory f fs memory) (told_some f.seat.lowered h) in
      (r.0, among_left r.0 (fault_of f.end) (end_faults fs) r.1, r.2)
    where
      told_some : (o : Option ℕ) → Some o ≡ Some (Some bar) → o ≡ Some bar
      told_some o e = cc
  reached_at (f ∷ fs) (suc k) ran memory h =
      let r = reached_at fs k (All-tail Ran f fs ran) (All-tail HasMemory f fs memory) h in
      (r.0, among_right r.0 (fault_of f.end) (end_faults fs) r.1, r.2)

  -- the bar isn't below the number of clusters, or a slot met a fault there
  pub reaches : (fs : List Finished) → c.clusters ≡ length facts.faults → All Ran fs → All HasMemory fs → IsLeast c.clusters (map seat_in fs) bar → (length facts.faults ≤ bar) ⊎ IsReached (end_faults fs)
  reaches fs few ran memory least = ⊎_elim
      (λ (lt : bar < c.clusters).
      let there = least.reached lt in
      let lowered = map (λ (s : SeatSeen). s.lowered) (map seat_in fs) in
      inr (reached_at fs there.0 ran memory (slice_get-get_or lowered there.0 (Some bar) there.1 ∙ ap Some there.2)))
      (λ (le : c.clusters ≤ bar). inl (omega arith))
      (cases_lt bar c.clusters)

  -- ---- where no slot faulted

  -- the pieces with which a slot is over
  abbrev pub IsOver : Finished → Type 0
  IsOver f = (ps : List TextPiece) × (f.end ≡ Over ps)

  is_over : (end : End) (rest : List Fault) → IsServed end → fault_of end ++ rest ≡ [] → ((ps : List TextPiece) × (end ≡ Over ps)) × (rest ≡ [])
  is_over (Over ps) rest served none = ((ps, refl), none)
  is_over (Faulted f) rest served none = absurd (cc)
  is_over NoMemory rest served none = elim served [ ]

  all_over : (fs : List Finished) → All HasMemory fs → end_faults fs ≡ [] → All IsOver fs
  all_over [] memory none = All-nil IsOver
  all_over (f ∷ fs) memory none =
      let first = is_over f.end (end_faults fs) (All-head HasMemory f fs memory) none in
      All-cons IsOver f fs first.0 (all_over fs (All-tail HasMemory f fs memory) first.1)

  was_over : (f : Finished) → Ran f → (over : IsOver f) → Stopped c facts (Over over.0) f.seat
  was_over f ran over = subst (λ (e : End). Stopped c facts e f.seat) over.1 ran.stopped

  ran_out : (seat : SeatSeen) (ps : List TextPiece) → c.clusters ≤ bar → RanOut c seat (clusters_of ps) ⊎ MetBar c seat (clusters_of ps) → IsPassed bar seat → RanOut c seat (clusters_of ps)
  ran_out seat ps high how passed = ⊎_elim
      (λ (r : RanOut c seat (clusters_of ps)). r)
      (λ (m : MetBar c seat (clusters_of ps)).
      let above = passed_above seat m.last m.passed passed in
      let inside = m.cluster in
      absurd (omega arith))
      how

  kept_more : (o : Option ℕ) (word : ℕ) → IsSomeAnd o (λ k. c.clusters ≤ k) → IfSome o (λ k. (c.clusters ≤ k) × (k < word)) → c.clusters ≤ word
  kept_more None word s k = elim s [ ]
  kept_more (Some n) word s k = let x = k.0 in let y = k.1 in omega arith

  all_drawn : (fs : List Finished) (word : ℕ) → 0 < length fs → c.clusters ≤ bar → All Ran fs → All IsOver fs → All (IsPassed bar) (map seat_in fs) → All (IsKept c.clusters word) (map seat_in fs) → c.clusters ≤ word
  all_drawn [] word some high ran over passed kept = absurd (omega arith)
  all_drawn (f ∷ fs) word some high ran over passed kept =
      let first = All-head IsOver f fs over in
      let was = was_over f (All-head Ran f fs ran) first in
      let out = ran_out f.seat first.0 high was.1 (All-head (IsPassed bar) (seat_in f) (map seat_in fs) passed) in
      kept_more f.seat.kept word out.past (All-head (IsKept c.clusters word) (seat_in f) (map seat_in fs) kept)

  -- the pieces of the slots that are over have the clusters that they drew
  made_all : (fs : List Finished) → c.clusters ≤ bar → All Ran fs → All IsOver fs → All (IsPassed bar) (map seat_in fs) → concat (drawn_in fs) ≡ clusters_of (flat_map pieces_in fs)
  made_all [] high ran over passed = refl
  made_all (f ∷ fs) high ran over passed =
      let first = All-head IsOver f fs over in
      let was = was_over f (All-head Ran f fs ran) first in
      let out = ran_out f.seat first.0 high was.1 (All-head (IsPassed bar) (seat_in f) (map seat_in fs) passed) in
      let rest = made_all fs high (All-tail Ran f fs ran) (All-tail IsOver f fs over) (All-tail (IsPassed bar) (seat_in f) (map seat_in fs) passed) in
      ap₂ (λ a b. a ++ b) out.all rest ∙ sym (map-append (λ (p : TextPiece). p.cluster) first.0 (flat_map pieces_in fs)) ∙ ap (λ (e : End). clusters_of (pieces_of e ++ flat_map pieces_in fs)) (sym first.1)

  each_made : (fs : List Finished) → All Ran fs → All IsOver fs → All (IsPieceOf facts) (flat_map pieces_in fs)
  each_made [] ran over = All-nil (IsPieceOf facts)
  each_made (f ∷ fs) ran over =
      let first = All-head IsOver f fs over in
      let made = (was_over f (All-head Ran f fs ran) first).0 in
      All-append (IsPieceOf facts) (pieces_in f) (flat_map pieces_in fs) (subst (λ (e : End). All (IsPieceOf facts) (pieces_of e)) (sym first.1) made.each) (each_made fs (All-tail Ran f fs ran) (All-tail IsOver f fs over))

  module _ (fs : List Finished) (word : ℕ) (are : AreFacts c.clusters facts) (some : 0 < length fs) (ran : All Ran fs) (memory : All HasMemory fs)
      (drawn : DrawnBy (drawn_in fs) (min word c.clusters)) (least : IsLeast c.clusters (map seat_in fs) bar) (passed : All (IsPassed bar) (map seat_in fs)) (kept : All (IsKept c.clusters word) (map seat_in fs)) where
    high_bar : end_faults fs ≡ [] → c.clusters ≤ bar
    high_bar none = ⊎_elim
        (λ (le : length facts.faults ≤ bar). let f = are.faults in let r : c.clusters ≤ bar = omega arith in r)
        (λ (g : IsReached (end_faults fs)). absurd (subst (Among g.0) none g.1))
        (reaches fs (sym are.faults) ran memory least)

    full : end_faults fs ≡ [] → c.clusters ≤ word
    full none = all_drawn fs word some (high_bar none) ran (all_over fs memory none) passed kept

    counted : (k : ℕ) → times k (concat (drawn_in fs)) ≡ once_below k (min word c.clusters)
    counted k = times_concat k (drawn_in fs) ∙ (counts_by_drawn (drawn_in fs) (min word c.clusters) drawn).1 k

    -- the least of the slots' faults is that of the first cluster that has one
    pub least_is_first : least_fault (end_faults fs) ≡ first_in facts.faults
    least_is_first =
        let m = min word c.clusters in
        first_told facts.faults bar m (concat (drawn_in fs)) (end_faults fs) are.order (slots_told fs ran memory passed) (reaches fs (sym are.faults) ran memory least)
        (λ k lt. omega (arith, counted k, once_inside k m lt))
        (λ k there. inside_once k m (omega (arith, counted k)))
        (λ none. let w = full none in let f = are.faults in omega arith)

    -- where no slot faulted, each cluster has a piece
    pub has_all : end_faults fs ≡ [] → HasAll facts (flat_map pieces_in fs)
    has_all none =
        let over = all_over fs memory none in
        let m = min word c.clusters in
        record {
          each = each_made fs ran over;
          all = λ k lt. (let w = full none in let t = are.texts in let inside : k < m = omega arith in
              subst (λ (l : List ℕ). 0 < times k l) (made_all fs (high_bar none) ran over passed) (omega (arith, counted k, once_inside k m inside)));
        }

-- the least of no faults is none
pub left_none : (fs : List Fault) → None ≡ least_fault fs → fs ≡ []
left_none [] is = refl
left_none (f ∷ fs) is = absurd (cc)
