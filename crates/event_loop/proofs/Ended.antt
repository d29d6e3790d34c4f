-- What the slots of a loop tell once all have stopped.
use Rattle.lemmas.proofs.{◌≡◌, List, ◌∷◌, ◌++◌, length, sym, ap, ◌∙◌, subst, arith, ℕ, zero, suc, map, [], Option, Some, refl, slice_get, option_to_list, ◌-◌, ◌<◌, ◌≤◌, get_or, drop, drop-cons, ◌⊎◌, min, None, inl, inr, ⊎_elim, IfSome, IsSomeAnd, ◌+◌, append-nil, length-append, All, replicate, unwrap_or, take-length, All-nil, concat, concat_is, length-flat_map, length_permutation, sum_by, All-cons, All-head, All-tail, cases_lt, length-map, same_some, slice_get-get_or, All-map, All-pop, All-push, length-range_with_len, range_with_len, All-contains, All-weaker, AllPairs-from_increasing, common_steps, Contains-push, IsStrictlyIncreasing, map-append, mapped_at, something_at}
use Rattle.loop_pieces.specs.{HaveTrails, LoopPiece, StandsFor, cluster_fault, nothing, watched_places}
use Rattle.slot_words.specs.{AreNoted, BookSeen, HavePartialsOver, many_in, noted_sets, ShareSeen, ClaimsSeen, IsLeast, IsPassed, last_of, RanOut, SeatSeen, fresh_share, fresh_shares, IsReady, chain_of}
use Rattle.event_loop.specs.{AreMade, AreShares, CanFill, HasNoted, HaveNoted, JobFacts, AreFacts, end_faults, fault_of, HasMemory, HasStopped, HaveFinished, IsOver, IsServed, piece_of, pieces_in, seat_in, shares_in, Stopped, AreBlank, IsBlank, IsFresh, job_facts, AreSound, IsSlotOf, SlotPhase, SlotView, IsFreshSlot, IsOfPasses}
use Rattle.event_loop.specs.declared.gather.Made.{Made}
use Rattle.rdf_values.proofs.UnionLemmas.{sum_by-map, length-below, times_concat, times_push, counts_by_drawn, once_inside, inside_once, times_self, drawn_lists_unite, below_rises, both_rise, by_counts, none_rises, two, rises_push, slice_get-below}
use Rattle.rdf_values.specs.{below, DrawnBy, IsUnion, Fault, least_fault, first_in, once_below, times, AnswerIn64Bits, Booked, history, named_before, Pass, StatementsHaveWords}
use Rattle.rdf_model.specs.declared.loop_facts.LoopFacts.{LoopFacts}
use Rattle.merge_core.specs.{Stand}
use Rattle.event_loop.specs.declared.workers.FinishedSlot.{FinishedSlot}
use Rattle.event_loop.specs.declared.workers.SlotEnd.{SlotEnd}
use Rattle.event_loop.specs.declared.workers.SlotEnd.TheVariants.{Over, Faulted, NoMemory}
use Rattle.merge_core.proofs.Merging.{Among, Told, told_nothing, told_both, first_told, among_left, among_right}
use Rattle.merge_core.proofs.Holding.{only}
use Rattle.event_loop.specs.declared.workers.SlotRights.{SlotRights}
use Rattle.event_loop.specs.declared.workers.Shared.{Shared}
use Rattle.rdf_values.proofs.Evenly.{cuts_lead}
use Rattle.loop_keys.specs.{IsJob, job_spans, JobView, facts_in, job_graph, passes_in}
use Rattle.loop_pieces.proofs.ByCluster.{lower_clusters_fault_first}
use Rattle.rdf_model.specs.{IsChain, IsLoopFacts, kinds_in, loop_facts, loop_passes, loop_results}
use Rattle.slot_words.proofs.Noting.{is_chain}
use Rattle.slot_words.proofs.Steps.{rising_room}
use Rattle.std.specs.declared.snapshot.Snapshot.{Snapshot}
use Rattle.block_passes.specs.{at_end, CountsVectors, IsStateOf}
use Rattle.cluster_tally.specs.{at_begin, Holds, IsAtEnd, IsFresh as IsFreshTally}
use Rattle.rdf_model.proofs.Limits.{cuts_are_in_order, loops_meet_limits}
use Rattle.graph_numbers.specs.{graph_loops, pass_at}
use Rattle.graph_numbers.proofs.Placing.{itself}
use Rattle.graph_numbers.proofs.Covering.{loops_are}
use Rattle.cluster_tally.proofs.Closing.{fresh_holds}
use Rattle.event_loop.specs.declared.state.SlotPhase.TheVariants.{Going}
use Rattle.slot_words.specs.Shares as book

-- ---- the pieces, the shares and the trails of slots that finished all clusters

abbrev numbers_in : ShareSeen → List ℕ
numbers_in s = s.numbers

module _ (b : Option BookSeen) (job : JobFacts) where
  pub none_made : AreMade b job [] [] []
  none_made = record { stand = tt; trails = record { many = refl; each = λ k done p at there. absurd (cc) }; noted = λ k is. record { many = refl; of = All-nil (book.IsOf k); noted = refl } }

  module _ (done : List ℕ) (p : LoopPiece) (o : Option ShareSeen) (dones : List (List ℕ)) (ps : List LoopPiece) (shares : List ShareSeen) (stands : StandsFor job.facts done p)
      (trails : HaveTrails job.facts job.watched done p.trails.items) (noted : HasNoted b (length done) o) (h : AreMade b job dones ps shares) where
    first_or : (k : ℕ) (d : List ℕ) (q : LoopPiece) → slice_get (done ∷ dones) k ≡ Some d → slice_get (p ∷ ps) k ≡ Some q → HaveTrails job.facts job.watched d q.trails.items
    first_or zero d q at there = grind (arith, trails)
    first_or (suc k) d q at there = h.trails.each k d q at there

    one_share : (k : BookSeen) (o : Option ShareSeen) → HasNoted (Some k) (length done) o → AreShares k dones shares → AreShares k (done ∷ dones) (option_to_list o ++ shares)
    one_share k o noted rest = grind arith

    -- one slot before others
    pub one_made : AreMade b job (done ∷ dones) (p ∷ ps) (option_to_list o ++ shares)
    one_made = record {
      stand = (stands, h.stand);
      trails = record { many = (let m = h.trails.many in omega arith); each = first_or };
      noted = λ k is. one_share k o (subst (λ (x : Option BookSeen). HasNoted x (length done) o) is noted) (h.noted k is);
    }

pub as_many_pieces : (stands : List ℕ → LoopPiece → Type 0) (dones : List (List ℕ)) (ps : List LoopPiece) → Stand stands dones ps → length ps ≡ length dones
as_many_pieces stands [] [] stand = refl
as_many_pieces stands (d ∷ ds) (p ∷ ps) stand = let r = as_many_pieces stands ds ps stand.1 in omega arith
as_many_pieces stands ds ps stand = elim stand [ ]

sum_lengths : (xs ys : List (List ℕ)) → map length xs ≡ map length ys → sum_by length xs ≡ sum_by length ys
sum_lengths xs ys e = sym (sum_by-map (λ n. n) length xs) ∙ ap (sum_by (λ n. n)) e ∙ sum_by-map (λ n. n) length ys

-- as many as there are clusters
many_finished : (dones : List (List ℕ)) (n : ℕ) → IsUnion dones (below n) → sum_by length dones ≡ n
many_finished dones n u = sym (ap length (concat_is dones) ∙ length-flat_map (λ (x : List ℕ). x) dones) ∙ sym (length_permutation (concat dones) (below n) u.each_once) ∙ length-below n

are_noted : (dones orders : List (List ℕ)) (n : ℕ) → IsUnion dones (below n) → map length orders ≡ map length dones → DrawnBy orders (many_in orders) → AreNoted orders dones n
are_noted dones orders n u same drawn = grind (arith, sum_lengths, many_finished)

-- nothing is watched
none_over : (facts : LoopFacts) (places : List ℕ) (k : ℕ) (sets : List (List ℕ)) → length places ≡ 0 → HavePartialsOver facts places k sets []
none_over facts [] k sets none = record { are = record { sets = sets; chain = λ some. absurd (omega arith); many = refl; each = λ w place lines a c. absurd (cc) }; sets_are = refl }
none_over facts (p ∷ ps) k sets none = absurd (omega arith)

pub none_watched : (job : JobFacts) (k : ℕ) (dones : List (List ℕ)) → length job.watched ≡ 0 → HaveNoted job k dones []
none_watched job k dones none = ([], record { noted = λ some. absurd (omega arith); over = none_over job.facts job.watched k (noted_sets [] dones (length job.facts.ranges) k) none })

-- where there is a book
pub noted_in : (b : BookSeen) (o : Option BookSeen) (watched clusters : ℕ) (job : JobFacts) (made : Made) (can : CanFill o watched clusters job made)
    → o ≡ Some b → (orders : List (List ℕ)) → orders ≡ map numbers_in made.shares
    → DrawnBy (map numbers_in made.shares) (many_in (map numbers_in made.shares)) → AreNoted orders can.finished.dones clusters
noted_in b o watched clusters job made can is orders orders_are drawn = grind (arith, are_noted)

-- what is known of the slots from place i on
pub record IsLeastFrom (fs : List FinishedSlot) (i : ℕ) (least : Option Fault) : Type 0 where
  pub within : i ≤ length fs
  pub told : least ≡ least_fault (end_faults (drop i fs))
  pub memory : All HasMemory (drop i fs)

one_more : (fs : List FinishedSlot) (i : ℕ) (d : FinishedSlot) → 0 < i → i ≤ length fs → drop (i - 1) fs ≡ get_or fs (i - 1) d ∷ drop i fs
one_more fs i d some within = drop-cons fs (i - 1) d (omega arith) ∙ (let e : suc (i - 1) ≡ i = omega arith in ap (λ k. get_or fs (i - 1) d ∷ drop k fs) e)

-- one slot before them
pub next_slot : (fs : List FinishedSlot) (i : ℕ) (d : FinishedSlot) (least now : Option Fault) → 0 < i → IsLeastFrom fs i least → IsServed (get_or fs (i - 1) d).end
    → now ≡ least_fault (fault_of (get_or fs (i - 1) d).end ++ end_faults (drop i fs)) → IsLeastFrom fs (i - 1) now
next_slot fs i d least now some h served is = grind (arith, one_more)

-- the clusters that each slot drew
abbrev pub drawn_in : List FinishedSlot → List (List ℕ)
drawn_in fs = map (λ (s : SeatSeen). s.drawn) (map seat_in fs)

-- what is known of the number with which a slot ran out
abbrev pub IsKept : ℕ → ℕ → SeatSeen → Type 0
IsKept clusters word s = IfSome s.kept (λ k. (clusters ≤ k) × (k < word))

left_none : (fs : List Fault) → None ≡ least_fault fs → fs ≡ []
left_none [] is = refl
left_none (f ∷ fs) is = absurd (cc)

module _ (c : ClaimsSeen) (b : Option BookSeen) (job : JobFacts) (bar : ℕ) where
  abbrev pub Ran : FinishedSlot → Type 0
  Ran f = HasStopped (record { claims = c; book = b }) job f

  -- the last of a list, which isn't among the others
  last_is : (k n : ℕ) (done drawn : List ℕ) → drawn ≡ done ++ n ∷ [] → 0 < times k drawn → times k done ≤ 0 → n ≡ k
  last_is k n done drawn is some none = only k n (omega (arith, ap (times k) is, times_push k done n))

  passed_above : (seat : SeatSeen) (last : ℕ) → seat.passed ≡ Some last → IsPassed bar seat → bar ≤ last
  passed_above seat last is h = (subst (λ (o : Option ℕ). IfSome o (λ p. (bar ≤ p) × (0 < length seat.drawn) × (p ≡ last_of seat.drawn))) is h).0

  over_sound : (s : SlotRights) (piece : LoopPiece) (k : ℕ) → IsOver c b job s piece → IsPassed bar s.seat → 0 < times k s.seat.drawn → k < bar → slice_get job.faults k ≡ Some None
  over_sound s piece k over passed some lt = elim over.left [
    | inl r ↦ over.sound k (subst (λ (l : List ℕ). 0 < times k l) r.all some)
    | inr m ↦ elim (cases_lt 0 (times k over.done)) [
      | inl here ↦ over.sound k here
      | inr none ↦ (let same = last_is k m.last over.done s.seat.drawn m.others some none in let above = passed_above s.seat m.last m.passed passed in absurd (omega arith))
    ]
  ]

  slot_told : (end : SlotEnd) (s : SlotRights) → Stopped c b job end s → IsServed end → IsPassed bar s.seat → Told job.faults bar s.seat.drawn (fault_of end)
  slot_told (Over piece) s over served passed = record { sound = λ k some lt. inl (over_sound s piece k over passed some lt); own = λ f a. elim a [ ] }
  slot_told (Faulted g) s met served passed =
      record {
        sound = λ k some lt. ⊎_elim
            (λ (here : 0 < times k met.done). inl (met.sound k here))
            (λ (none : times k met.done ≤ 0).
            inr (g, inl refl, subst (λ (j : ℕ). slice_get job.faults j ≡ Some (Some g)) (last_is k met.last met.done s.seat.drawn met.others some none) met.its_fault))
            (cases_lt 0 (times k met.done));
        own = λ f a. ⊎_elim
            (λ (e : f ≡ g). (met.last, omega (arith, ap (times met.last) met.others, times_push met.last met.done met.last, times_push met.last [] met.last, times_self met.last []), met.its_fault ∙ ap (λ (k : Fault). Some (Some k)) (sym e)))
            (λ (n : ⊥). absurd n)
            a;
      }
  slot_told NoMemory s stopped served passed = elim served [ ]

  slots_told : (fs : List FinishedSlot) → All Ran fs → All HasMemory fs → All (IsPassed bar) (map seat_in fs) → Told job.faults bar (concat (drawn_in fs)) (end_faults fs)
  slots_told [] ran memory passed = told_nothing job.faults bar
  slots_told (f ∷ fs) ran memory passed =
      told_both job.faults bar f.slot.seat.drawn (concat (drawn_in fs)) (fault_of f.end) (end_faults fs)
      (slot_told f.end f.slot (All-head Ran f fs ran).stopped (All-head HasMemory f fs memory) (All-head (IsPassed bar) (seat_in f) (map seat_in fs) passed))
      (slots_told fs (All-tail Ran f fs ran) (All-tail HasMemory f fs memory) (All-tail (IsPassed bar) (seat_in f) (map seat_in fs) passed))

  -- a slot that lowered the bar to it met a fault there
  abbrev IsReached : List Fault → Type 0
  IsReached mine = (g : Fault) × Among g mine × (slice_get job.faults bar ≡ Some (Some g))

  one_lowered : (end : SlotEnd) (s : SlotRights) → Stopped c b job end s → IsServed end → s.seat.lowered ≡ Some bar → IsReached (fault_of end)
  one_lowered (Over piece) s over served is = (let none = over.unlowered in absurd (cc))
  one_lowered (Faulted g) s met served is =
      let same : met.last ≡ bar = same_some (sym met.lowered ∙ is) in
      (g, inl refl, subst (λ (j : ℕ). slice_get job.faults j ≡ Some (Some g)) same met.its_fault)
  one_lowered NoMemory s stopped served is = elim served [ ]

  reached_at : (fs : List FinishedSlot) (k : ℕ) → All Ran fs → All HasMemory fs → slice_get (map (λ (s : SeatSeen). s.lowered) (map seat_in fs)) k ≡ Some (Some bar) → IsReached (end_faults fs)
  reached_at [] k ran memory h = absurd (cc)
  reached_at (f ∷ fs) zero ran memory h =
      let r = one_lowered f.end f.slot (All-head Ran f fs ran).stopped (All-head HasMemory f fs memory) (same_some h) in
      (r.0, among_left r.0 (fault_of f.end) (end_faults fs) r.1, r.2)
  reached_at (f ∷ fs) (suc k) ran memory h =
      let r = reached_at fs k (All-tail Ran f fs ran) (All-tail HasMemory f fs memory) h in
      (r.0, among_right r.0 (fault_of f.end) (end_faults fs) r.1, r.2)

  -- the bar isn't below the number of clusters, or a slot met a fault there
  reaches : (fs : List FinishedSlot) → c.clusters ≡ length job.faults → All Ran fs → All HasMemory fs → IsLeast c.clusters (map seat_in fs) bar → (length job.faults ≤ bar) ⊎ IsReached (end_faults fs)
  reaches fs few ran memory least = grind (arith, reached_at, slice_get-get_or, cases_lt)

  -- ---- where no slot faulted

  -- the slot finished all clusters that it drew, of which the piece is made, and no number is left that is a cluster
  record IsDone (f : FinishedSlot) : Type 0 where
    pub piece : LoopPiece
    pub is : f.end ≡ Over piece
    pub stands : StandsFor job.facts f.slot.seat.drawn piece
    pub trails : HaveTrails job.facts job.watched f.slot.seat.drawn piece.trails.items
    pub noted : HasNoted b (length f.slot.seat.drawn) f.slot.share
    pub past : IsSomeAnd f.slot.seat.kept (λ k. c.clusters ≤ k)

  is_done : (f : FinishedSlot) (rest : List Fault) → c.clusters ≤ bar → Ran f → HasMemory f → fault_of f.end ++ rest ≡ [] → IsPassed bar f.slot.seat → IsDone f × (rest ≡ [])
  is_done f rest high ran memory none passed = go f.end refl ran.stopped memory none
    where
      go : (end : SlotEnd) → f.end ≡ end → Stopped c b job end f.slot → IsServed end → fault_of end ++ rest ≡ [] → IsDone f × (rest ≡ [])
      go (Over piece) is over served none =
          let out : RanOut c f.slot.seat over.done = grind (arith, passed_above, high, passed, over.left) in (
            record {
              piece = piece;
              is = is;
              stands = subst (λ (l : List ℕ). StandsFor job.facts l piece) (sym out.all) over.stands;
              trails = subst (λ (l : List ℕ). HaveTrails job.facts job.watched l piece.trails.items) (sym out.all) over.trails;
              noted = subst (λ (l : List ℕ). HasNoted b (length l) f.slot.share) (sym out.all) over.noted;
              past = out.past;
            },
            none,
          )
      go (Faulted g) is met served none = absurd (cc)
      go NoMemory is stopped served none = elim served [ ]

  all_done : (fs : List FinishedSlot) → c.clusters ≤ bar → All Ran fs → All HasMemory fs → end_faults fs ≡ [] → All (IsPassed bar) (map seat_in fs) → All IsDone fs
  all_done [] high ran memory none passed = All-nil IsDone
  all_done (f ∷ fs) high ran memory none passed =
      let first = is_done f (end_faults fs) high (All-head Ran f fs ran) (All-head HasMemory f fs memory) none (All-head (IsPassed bar) (seat_in f) (map seat_in fs) passed) in
      All-cons IsDone f fs first.0 (all_done fs high (All-tail Ran f fs ran) (All-tail HasMemory f fs memory) first.1 (All-tail (IsPassed bar) (seat_in f) (map seat_in fs) passed))

  all_drawn : (fs : List FinishedSlot) (word : ℕ) → 0 < length fs → All IsDone fs → All (IsKept c.clusters word) (map seat_in fs) → c.clusters ≤ word
  all_drawn [] word some done kept = absurd (omega arith)
  all_drawn (f ∷ fs) word some done kept = grind (arith, (All-head IsDone f fs done).past, All-head (IsKept c.clusters word) (seat_in f) (map seat_in fs) kept)

  are_made : (fs : List FinishedSlot) → All IsDone fs → AreMade b job (drawn_in fs) (pieces_in fs) (shares_in fs)
  are_made [] done = none_made b job
  are_made (f ∷ fs) done =
      let d = All-head IsDone f fs done in
      subst (λ (e : SlotEnd). AreMade b job (f.slot.seat.drawn ∷ drawn_in fs) (piece_of e ++ pieces_in fs) (shares_in (f ∷ fs))) (sym d.is)
      (one_made b job f.slot.seat.drawn d.piece f.slot.share (drawn_in fs) (pieces_in fs) (shares_in fs) d.stands d.trails d.noted (are_made fs (All-tail IsDone f fs done)))

  module _ (fs : List FinishedSlot) (word : ℕ) (told : Option Fault) (facts : AreFacts c.clusters job) (ran : All Ran fs) (some : 0 < length fs) (memory : All HasMemory fs)
      (least : told ≡ least_fault (end_faults fs)) (drawn : DrawnBy (drawn_in fs) (min word c.clusters)) (lowest : IsLeast c.clusters (map seat_in fs) bar)
      (passed : All (IsPassed bar) (map seat_in fs)) (kept : All (IsKept c.clusters word) (map seat_in fs)) where
    done : end_faults fs ≡ [] → All IsDone fs
    done none = all_done fs (grind (arith, reaches)) ran memory none passed

    full : end_faults fs ≡ [] → c.clusters ≤ word
    full none = all_drawn fs word some (done none) kept

    -- the least of the slots' faults is that of the first cluster that has one
    pub first_is : first_in job.faults ≡ told
    first_is =
        let m = min word c.clusters in
        let count : (k : ℕ) → times k (concat (drawn_in fs)) ≡ once_below k m = λ k. times_concat k (drawn_in fs) ∙ (counts_by_drawn (drawn_in fs) m drawn).1 k in
        sym (first_told job.faults bar m (concat (drawn_in fs)) (end_faults fs) facts.order (slots_told fs ran memory passed) (reaches fs (sym facts.faults) ran memory lowest)
        (λ k lt. omega (arith, count k, once_inside k m lt))
        (λ k there. inside_once k m (omega (arith, count k)))
        (λ none. let w = full none in let f = facts.faults in omega arith)) ∙ sym least

    -- where no slot faulted, they finished all clusters
    pub have_finished : told ≡ None → (n : ℕ) → length fs ≡ n → (made : Made) → made.pieces ≡ pieces_in fs → made.shares ≡ shares_in fs → HaveFinished b job n made
    have_finished sound n size made pieces shares =
        let none = left_none (end_faults fs) (sym sound ∙ least) in
        let whole : min word c.clusters ≡ length job.faults = (let w = full none in let f = facts.faults in omega arith) in
        record {
          sound = first_is ∙ sound;
          dones = drawn_in fs;
          unite = drawn_lists_unite (drawn_in fs) (length job.faults) (subst (DrawnBy (drawn_in fs)) whole drawn);
          many = length-map (map seat_in fs) (λ (s : SeatSeen). s.drawn) ∙ length-map fs seat_in ∙ size;
          are = rw (pieces, shares) (are_made fs (done none));
        }

-- ---- what the slots of a loop begin with, and what is known of a whole loop

pub all_blank : (b : BookSeen) (n : ℕ) (shares : List ShareSeen) → shares ≡ fresh_shares b n → AreBlank (Some b) n shares
all_blank b n shares is = (
  ap length is ∙ length-map (range_with_len 0 n) (fresh_share b) ∙ length-range_with_len 0 n,
  subst (All (IsBlank b)) (sym is) (All-map (IsBlank b) (fresh_share b) (range_with_len 0 n) (λ k d lt. record { of = (refl, refl); unnoted = refl })),
)

-- the next share, where there is a book
pub next_share : (b : Option BookSeen) (n : ℕ) (old new : List ShareSeen) (r : Option ShareSeen)
    → AreBlank b (n + 1) old → old ≡ new ++ option_to_list r → (r ≡ None → length old ≡ 0) → HasNoted b 0 r × AreBlank b n new
next_share None n old new None blank popped none = (tt, sym (append-nil new) ∙ sym popped ∙ blank)
next_share None n old new (Some s) blank popped some = absurd (omega (arith, ap length blank, ap length popped, length-append new (s ∷ [])))
next_share (Some b) n old new None blank popped none = (let e = none refl in let m = blank.0 in absurd (omega arith))
next_share (Some b) n old new (Some s) blank popped some =
    let all = All-pop (IsBlank b) old new (Some s) popped blank.1 in
    let m = blank.0 in
    ((all.1.of, ap length all.1.unnoted), (omega (arith, ap length popped, length-append new (s ∷ [])), all.0))

-- what is left, and what is seated
pub record AreSeated (shared : Shared) (seats : List SeatSeen) (shares : List ShareSeen) (slots : List SlotRights) : Type 0 where
  pub ready : All (IsReady shared.claims) seats
  pub blank : AreBlank shared.book (length seats) shares
  pub done : All (IsFresh shared) slots

pub none_seated : (shared : Shared) (seats : List SeatSeen) (shares : List ShareSeen) → All (IsReady shared.claims) seats → AreBlank shared.book (length seats) shares → AreSeated shared seats shares []
none_seated shared seats shares ready blank = record { ready = ready; blank = blank; done = All-nil (IsFresh shared) }

pub next_seated : (shared : Shared) (seats seats' : List SeatSeen) (shares shares' : List ShareSeen) (slots slots' : List SlotRights) (seat : SeatSeen) (share : Option ShareSeen) (slot : SlotRights)
    → AreSeated shared seats shares slots → seats ≡ seats' ++ seat ∷ [] → shares ≡ shares' ++ option_to_list share → (share ≡ None → length shares ≡ 0)
    → slots' ≡ slots ++ slot ∷ [] → slot.seat ≡ seat → slot.share ≡ share
    → AreSeated shared seats' shares' slots'
next_seated shared seats seats' shares shares' slots slots' seat share slot h seats_are shares_are none slots_are seat_is share_is =
    let ready = All-pop (IsReady shared.claims) seats seats' (Some seat) seats_are h.ready in
    let many : length seats ≡ length seats' + 1 = omega (arith, ap length seats_are, length-append seats' (seat ∷ [])) in
    let noted = next_share shared.book (length seats') shares shares' share (subst (λ (n : ℕ). AreBlank shared.book n shares) many h.blank) shares_are none in
    record {
      ready = ready.0;
      blank = noted.1;
      done = subst (All (IsFresh shared)) (sym slots_are) (All-push (IsFresh shared) slots slot h.done record {
        seat = subst (IsReady shared.claims) (sym seat_is) ready.1;
        share = subst (HasNoted shared.book 0) (sym share_is) noted.0;
      });
    }

pub facts_of : (j : JobView) (n : ℕ) → IsJob j → n ≡ length (job_spans j) → AreFacts n (job_facts j)
facts_of j n job is = grind (arith, length-map, length-below, lower_clusters_fault_first, cuts_lead)

-- ---- what a slot begins with, and one before and after a cluster

-- one of two slots finishes all clusters in order
abbrev by_one : ℕ → List (List ℕ)
by_one c = [] ∷ below c ∷ []

-- the sets that the slots note then
abbrev pub first_sets : ℕ → ℕ → List (List ℕ)
first_sets c g = chain_of (by_one c) (by_one c) c g

pub first_sets_are_a_chain : (c g : ℕ) → IsChain c g (first_sets c g)
first_sets_are_a_chain c g =
    let u = by_counts (by_one c) (below c) (both_rise [] (below c) none_rises (below_rises c)) (below_rises c) (λ x. sym (two x [] (below c) ∙ omega arith)) in
    is_chain (by_one c) (by_one c) c g record { unite = u; drawn = record { rising = u.sets_rise; each_once = u.each_once }; many = refl }

-- ---- A slot that finished no cluster, and one before and after a cluster.

-- one more cluster without a fault
pub sound_more : (faults : List (Option Fault)) (done more : List ℕ) (n : ℕ) → AreSound faults done → slice_get faults n ≡ Some None → more ≡ done ++ n ∷ [] → AreSound faults more
sound_more faults done more n sound its is = λ k some. grind (arith, common_steps, sound k, ap (times k) is, times_push k done n)

-- all before the last are below it
pub below_last : (xs : List ℕ) (n : ℕ) → IsStrictlyIncreasing (xs ++ n ∷ []) → All (λ y. y < n) xs
below_last xs n up k d lt =
    let pairs = AllPairs-from_increasing (xs ++ n ∷ []) up k (length xs) d lt (omega (arith, length-append xs (n ∷ []))) in
    grind (arith, common_steps, pairs)

-- there is a number above all of them
pub one_above : (xs : List ℕ) → (c : ℕ) × All (λ d. d < c) xs
one_above [] = (0, All-nil (λ d. d < 0))
one_above (x ∷ xs) =
    let rest = one_above xs in (
      x + 1 + rest.0,
      All-cons (λ d. d < x + 1 + rest.0) x xs (omega arith) (All-weaker (λ d. d < rest.0) (λ d. d < x + 1 + rest.0) (λ d lt. omega arith) xs rest.1),
    )

-- what snapshots show, with one more
pub seen_with : (done more : List (Snapshot ℕ)) (cluster : ℕ) (s : Snapshot ℕ) → s.value ≡ cluster → more ≡ done ++ s ∷ [] → map (λ (d : Snapshot ℕ). d.value) more ≡ map (λ (d : Snapshot ℕ). d.value) done ++ cluster ∷ []
seen_with done more cluster s shows is = ap (map (λ (d : Snapshot ℕ). d.value)) is ∙ map-append (λ (d : Snapshot ℕ). d.value) done (s ∷ []) ∙ ap (λ c. map (λ (d : Snapshot ℕ). d.value) done ++ c ∷ []) shows

-- ---- faults

pub fault_at : (j : JobView) (cluster : ℕ) (o : Option Fault) → cluster < length (job_facts j).faults → cluster_fault j.dataset (job_spans j) (passes_in j) cluster ≡ o → slice_get (job_facts j).faults cluster ≡ Some o
fault_at j cluster o lt is =
    let many = length-map (below (length (job_spans j))) (cluster_fault j.dataset (job_spans j) (passes_in j)) in
    mapped_at (cluster_fault j.dataset (job_spans j) (passes_in j)) (below (length (job_spans j))) cluster cluster (slice_get-below (length (job_spans j)) cluster (omega (arith, length-below (length (job_spans j)))))
    ∙ ap Some is

pub cluster_within : (j : JobView) (cluster : ℕ) → cluster < length (job_facts j).faults → cluster < length (job_spans j)
cluster_within j cluster lt = omega (arith, length-map (below (length (job_spans j))) (cluster_fault j.dataset (job_spans j) (passes_in j)), length-below (length (job_spans j)))

-- ---- a slot of a job

module _ (j : JobView) (s : SlotView) (h : IsSlotOf (job_facts j) s) where
  module _ (seen : SlotView) (is : seen ≡ s) (some : seen.phase ≡ SlotPhase.NoMemory → ⊥) (sound : s.phase ≡ SlotPhase.Faulted → ⊥)
      (cluster : ℕ) (above : All (λ c. c < cluster) s.done) where
    pub going : s.phase ≡ SlotPhase.Going
    going = let memory : s.phase ≡ SlotPhase.NoMemory → ⊥ = λ e. some (ap (λ (v : SlotView). v.phase) is ∙ e) in grind (arith, memory, sound)

    pub begins : Holds (facts_in j) (job_facts j).watched (at_begin s.done cluster) seen.tally
    begins = subst (λ (v : SlotView). Holds (facts_in j) (job_facts j).watched (at_begin s.done cluster) v.tally) (sym is) (h.holds going cluster above)

    pub has_room : cluster < length (job_facts j).faults → length seen.done < seen.room
    has_room within = subst (λ (v : SlotView). length v.done < v.room) (sym is)
        (omega (arith, within, h.room, rising_room s.done cluster (rises_push s.done cluster begins.rises above)))

    -- after the cluster
    pub went_on : (t : SlotView) → IsStateOf j t.blocks → t.vectors ≡ seen.vectors → t.room ≡ seen.room → t.done ≡ seen.done ++ cluster ∷ []
        → ((next : ℕ) → cluster < next → Holds (facts_in j) (job_facts j).watched (at_begin (s.done ++ cluster ∷ []) next) t.tally) → IsSlotOf (job_facts j) t
    went_on t state vectors room done holds =
        let same_vectors = vectors ∙ ap (λ (v : SlotView). v.vectors) is in
        let same_done = done ∙ ap (λ (v : SlotView). v.done ++ cluster ∷ []) is in
        record {
          blocks = state;
          vectors = subst (CountsVectors (job_graph j)) (sym same_vectors) h.vectors;
          few = (let f = h.few in omega (arith, f, same_vectors));
          room = (let r = h.room in omega (arith, room, ap (λ (v : SlotView). v.room) is));
          holds = λ on c high. (
              let all = subst (All (λ d. d < c)) same_done high in
              subst (λ l. Holds (facts_in j) (job_facts j).watched (at_begin l c) t.tally) (sym same_done) (holds c (All-contains (λ d. d < c) (s.done ++ cluster ∷ []) cluster all (Contains-push s.done cluster))));
        }

pub is_at_end : (j : JobView) (done : List ℕ) (cluster : ℕ) → IsAtEnd (facts_in j) (at_end (facts_in j) done cluster) cluster
is_at_end j done cluster = record { at_cluster = refl; entries = refl; passes = refl; filters = refl }

module _ (j : JobView) (job : IsJob j) where
  loop_there : (results : List Booked) × (slice_get (loop_results (history j.script)) j.number ≡ Some results)
  loop_there =
      let all = loops_are (history j.script) (history j.script) itself in
      let many = sym (length-map (graph_loops (job_graph j)) (map (pass_at (history j.script)))) ∙ ap length all
      ∙ length-map (loop_results (history j.script)) (λ results. map (λ (p : Pass). Some p) (loop_passes (history j.script) results)) in
      something_at (loop_results (history j.script)) j.number (let lt = job.loop in omega (arith, lt, many))

  pub is_loop_facts : AnswerIn64Bits j.dataset.fns → StatementsHaveWords (history j.script) → IsLoopFacts (facts_in j)
  is_loop_facts answers words =
      let one = loop_there in
      subst (λ ps. IsLoopFacts (loop_facts j.dataset (named_before (history j.script)) (job_spans j) ps)) (ap (λ o. loop_passes (history j.script) (unwrap_or o [])) (sym one.1))
      (loops_meet_limits j.dataset j.script (named_before (history j.script)) (job_spans j) j.number one.0 answers words job.table.fit job.table.few (cuts_are_in_order j.cuts.entries j.cuts.size j.cuts.marks) one.1)

  pub begun : AnswerIn64Bits j.dataset.fns → StatementsHaveWords (history j.script) → (s : SlotView) → IsStateOf j s.blocks → CountsVectors (job_graph j) s.vectors × (s.vectors < 1099511627776) → IsOfPasses j (length (passes_in j)) s.tally
      → s.tally.flow ≡ replicate (length (named_before (history j.script))) nothing → length (job_spans j) ≤ s.room → s.done ≡ [] → s.phase ≡ Going
      → IsFreshSlot (job_facts j) s
  begun answers words s state vectors fresh flow room none going =
      let all = take-length (passes_in j) in
      let of_all = subst (λ ps. IsFreshTally (kinds_in ps) (watched_places (history j.script) ps) s.tally) all fresh in
      record {
        slot = record {
          blocks = state;
          vectors = vectors.0;
          few = vectors.1;
          room = (let m = length-map (below (length (job_spans j))) (cluster_fault j.dataset (job_spans j) (passes_in j)) in omega (arith, room, m, length-below (length (job_spans j))));
          holds = λ on c high. subst (λ d. Holds (facts_in j) (job_facts j).watched (at_begin d c) s.tally) (sym none)
              (fresh_holds (facts_in j) (job_facts j).watched s.tally c (is_loop_facts answers words) of_all flow);
        };
        none = none;
        going = going;
      }
