-- What holds of every machine that honest events lead to.
use Rattle.lemmas.proofs.{◌≡◌, ◌⊎◌, ℕ, zero, suc, ◌+◌, ◌<◌, ◌≤◌, min, List, [], ◌∷◌, ◌++◌, length, set, cond, Option, None, Some, refl, sym, ap, ◌∙◌, subst, inl, inr, ⊎_elim, arith, ◌==◌, slice_get, flat_map, map, mul-zero, IsTrue, Ok, All, All-pop, All-push, All-set, All-weaker, cases_lt, common_steps, get_or_from_slice_get, IsStrictlyIncreasing, length-set, slice_get_within, sum_by, sum_by-set, All-cons, All-head, All-map, All-nil, All-replicate, All-tail, concat, length-replicate, sum_by-cons, sum_by-replicate}
use Rattle.std.specs.Prelude.{⊤}
use Rattle.rdf_values.specs.{Ended, Event, Fault as LoopFault, fault_of, Faulted, finished, IsHonest, IsHonestEvent, Machine, once_below, Phase, Running, Slot, slot_faults, slot_of, times, below, drawn_lists, is_over, opening, replayed}
use Rattle.rdf_values.specs.declared.clusters.event.Event.TheVariants.{Claim, Finish, Fault, Skip, End}
use Rattle.rdf_values.proofs.UnionLemmas.{one_if, times_push, times_append, once_next, rises_push, times_below, times_concat, permuted_by_counts, once_inside, inside_once, drawn_by_counts, sum_by-map, none_rises}
use Rattle.merge_core.proofs.Merging.{Among, among_left, among_right, among_either, Told, Reaches, told_nothing, told_both, first_told}
use Rattle.merge_core.proofs.Stepped.{IsStepped, slot_with, left, changed, replays}
use Rattle.merge_core.specs.{EachIsDrawnOnce, FirstFaultIsTold}

-- ---- slots

-- all but the last
abbrev pub but_last : List ℕ → List ℕ
but_last [] = []
but_last (x ∷ []) = []
but_last (x ∷ y ∷ ys) = x ∷ but_last (y ∷ ys)

pub but_last_push : (xs : List ℕ) (x : ℕ) → but_last (xs ++ x ∷ []) ≡ xs
but_last_push [] x = refl
but_last_push (y ∷ []) x = refl
but_last_push (y ∷ z ∷ zs) x = ap (λ l. y ∷ l) (but_last_push (z ∷ zs) x)

-- the clusters that a slot finished or passed over: all that it drew, but for the one that it holds or faulted in
abbrev pub done_in : List ℕ → Option ℕ → Phase → List ℕ
done_in drawn (Some c) phase = but_last drawn
done_in drawn None Running = drawn
done_in drawn None Ended = drawn
done_in drawn None (Faulted f) = but_last drawn

abbrev pub done_of : Slot → List ℕ
done_of s = done_in s.drawn s.held s.phase

-- the cluster that a slot holds is the last that it drew
abbrev pub EndsIn : List ℕ → Option ℕ → Phase → Type 0
EndsIn drawn (Some c) Running = drawn ≡ but_last drawn ++ c ∷ []
EndsIn drawn (Some c) Ended = ⊥
EndsIn drawn (Some c) (Faulted f) = ⊥
EndsIn drawn None p = ⊤

-- each of the clusters below the bar has no fault
abbrev pub AreSound : List (Option LoopFault) → ℕ → List ℕ → Type 0
AreSound faults bar clusters = (c : ℕ) → 0 < times c clusters → c < bar → slice_get faults c ≡ Some None

-- the fault of a slot is that of the last cluster that it drew
abbrev pub FaultsIn : List (Option LoopFault) → List ℕ → Phase → Type 0
FaultsIn faults drawn (Faulted f) = (c : ℕ) × (drawn ≡ but_last drawn ++ c ∷ []) × (slice_get faults c ≡ Some (Some f))
FaultsIn faults drawn p = ⊤

pub record IsSound (faults : List (Option LoopFault)) (bar : ℕ) (s : Slot) : Type 0 where
  pub done : AreSound faults bar (done_of s)
  pub fault : FaultsIn faults s.drawn s.phase

-- the bar is the number of clusters, or at a cluster that a slot faulted in
abbrev pub IsReached : ℕ → List (Option LoopFault) → ℕ → List LoopFault → Type 0
IsReached clusters faults bar mine = (bar ≡ clusters) ⊎ ((g : LoopFault) × Among g mine × (slice_get faults bar ≡ Some (Some g)))

pub record Holds (clusters slots : ℕ) (past : List Event) (m : Machine) : Type 0 where
  pub rise : All (λ (s : Slot). IsStrictlyIncreasing s.drawn) m.slots
  pub under : All (λ (s : Slot). All (λ y. y < m.next) s.drawn) m.slots
  pub once : (x : ℕ) → sum_by (λ (s : Slot). times x s.drawn) m.slots ≡ once_below x m.next
  pub few : m.next ≤ clusters
  pub low : m.bar ≤ clusters
  pub many : length m.slots ≡ slots
  pub closing : All (λ (s : Slot). s.phase ≡ Ended → m.bar ≤ m.next) m.slots
  pub shape : All (λ (s : Slot). EndsIn s.drawn s.held s.phase) m.slots
  pub most : (x : ℕ) → times x (finished past) ≤ sum_by (λ (s : Slot). times x (done_of s)) m.slots
  pub done : (x : ℕ) → x < m.bar → times x (finished past) ≡ sum_by (λ (s : Slot). times x (done_of s)) m.slots
  pub sound : (faults : List (Option LoopFault)) → IsHonest faults past → All (IsSound faults m.bar) m.slots
  pub reach : (faults : List (Option LoopFault)) → IsHonest faults past → IsReached clusters faults m.bar (slot_faults m)

finished_push : (past : List Event) (e : Event) → finished (past ++ e ∷ []) ≡ finished past ++ finished (e ∷ [])
finished_push [] e = refl
finished_push (Claim i c ∷ es) e = finished_push es e
finished_push (Finish i c ∷ es) e = ap (λ l. c ∷ l) (finished_push es e)
finished_push (Fault i c f ∷ es) e = finished_push es e
finished_push (Skip i c ∷ es) e = finished_push es e
finished_push (End i ∷ es) e = finished_push es e

honest_push : (faults : List (Option LoopFault)) (past : List Event) (e : Event) → IsHonest faults (past ++ e ∷ []) → IsHonest faults past × IsHonestEvent faults e
honest_push faults [] e h = (tt, h.0)
honest_push faults (p ∷ ps) e h = let r = honest_push faults ps e h.1 in ((h.0, r.0), r.1)

-- one slot has changed
module _ (slots : List Slot) (i : ℕ) (s now : Slot) (at : slice_get slots i ≡ Some s) where
  its : (P : Slot → Type 0) → All P slots → P s
  its P all = subst P (get_or_from_slice_get slots i s s at) (all i s (slice_get_within slots i s at))

  all_changed : (P Q : Slot → Type 0) → ((t : Slot) → P t → Q t) → Q now → All P slots → All Q (set slots i now)
  all_changed P Q weaker here all = All-set Q slots i now here (All-weaker P Q weaker slots all)

  sum_changed : (f : Slot → ℕ) → sum_by f (set slots i now) + f s ≡ sum_by f slots + f now
  sum_changed f = omega (arith, sum_by-set f slots i now s (slice_get_within slots i s at), ap f (get_or_from_slice_get slots i s s at))

abbrev fault_in : Slot → List LoopFault
fault_in s = fault_of s.phase

-- what a slot without a fault becomes takes no fault away
among_kept : (g : LoopFault) (slots : List Slot) (i : ℕ) (s now : Slot) → slice_get slots i ≡ Some s → s.phase ≡ Running → Among g (flat_map fault_in slots) → Among g (flat_map fault_in (set slots i now))
among_kept g [] i s now at runs h = elim h [ ]
among_kept g (t ∷ ts) zero s now at runs h = grind (arith, among_right, Among)
among_kept g (t ∷ ts) (suc i) s now at runs h = grind (arith, among_either g (fault_in t) (flat_map fault_in ts) h, among_left, among_right, among_kept g ts i s now at runs)

-- the fault of a slot is among all
among_new : (g : LoopFault) (slots : List Slot) (i : ℕ) (s now : Slot) → slice_get slots i ≡ Some s → Among g (fault_in now) → Among g (flat_map fault_in (set slots i now))
among_new g [] i s now at a = absurd (cc)
among_new g (t ∷ ts) zero s now at a = among_left g (fault_in now) (flat_map fault_in ts) a
among_new g (t ∷ ts) (suc i) s now at a = among_right g (fault_in t) (flat_map fault_in (set ts i now)) (among_new g ts i s now at a)

module _ (clusters slots : ℕ) (past : List Event) (m : Machine) (e : Event) (h : Holds clusters slots past m) (s now : Slot) (n b : ℕ) (at : slice_get m.slots (slot_of e) ≡ Some s) where
  -- what has to be known of the slot, of the next cluster and of the bar afterwards
  record Keeps : Type 0 where
    rises : IsStrictlyIncreasing now.drawn
    under : All (λ y. y < n) now.drawn
    more : m.next ≤ n
    lower : b ≤ m.bar
    once : (x : ℕ) → once_below x m.next + times x now.drawn ≡ once_below x n + times x s.drawn
    few : n ≤ clusters
    closing : now.phase ≡ Ended → b ≤ n
    shape : EndsIn now.drawn now.held now.phase
    most : (x : ℕ) → times x (finished (e ∷ [])) + times x (done_of s) ≤ times x (done_of now)
    done : (x : ℕ) → x < b → times x (finished (e ∷ [])) + times x (done_of s) ≡ times x (done_of now)
    sound : (faults : List (Option LoopFault)) → IsHonestEvent faults e → IsSound faults m.bar s → IsSound faults b now
    reach : (faults : List (Option LoopFault)) → IsHonestEvent faults e → IsReached clusters faults m.bar (slot_faults m) → IsReached clusters faults b (flat_map fault_in (set m.slots (slot_of e) now))

  all_finished : (x : ℕ) → times x (finished (past ++ e ∷ [])) ≡ times x (finished past) + times x (finished (e ∷ []))
  all_finished x = ap (times x) (finished_push past e) ∙ times_append x (finished past) (finished (e ∷ []))

  done_changed : (x : ℕ) → sum_by (λ (t : Slot). times x (done_of t)) (set m.slots (slot_of e) now) + times x (done_of s) ≡ sum_by (λ (t : Slot). times x (done_of t)) m.slots + times x (done_of now)
  done_changed x = sum_changed m.slots (slot_of e) s now at (λ (t : Slot). times x (done_of t))

  sound_below : (faults : List (Option LoopFault)) → b ≤ m.bar → (t : Slot) → IsSound faults m.bar t → IsSound faults b t
  sound_below faults le t known = record { done = λ c some lt. known.done c some (omega arith); fault = known.fault }

  after_step : Keeps → Holds clusters slots (past ++ e ∷ []) (changed m (slot_of e) (left n b now))
  after_step k =
      let i = slot_of e in
      let below_n : m.next ≤ n = k.more in
      let below_bar : b ≤ m.bar = k.lower in
      record {
        rise = All-set (λ (t : Slot). IsStrictlyIncreasing t.drawn) m.slots i now k.rises h.rise;
        under = all_changed m.slots i s now at (λ (t : Slot). All (λ y. y < m.next) t.drawn) (λ (t : Slot). All (λ y. y < n) t.drawn) (λ t a. All-weaker (λ y. y < m.next) (λ y. y < n) (λ y lt. omega arith) t.drawn a) k.under h.under;
        once = λ x. (let c = sum_changed m.slots i s now at (λ (t : Slot). times x t.drawn) in omega (arith, c, h.once x, k.once x));
        few = k.few;
        low = (let l = h.low in omega arith);
        many = length-set m.slots i now ∙ h.many;
        closing = all_changed m.slots i s now at (λ (t : Slot). t.phase ≡ Ended → m.bar ≤ m.next) (λ (t : Slot). t.phase ≡ Ended → b ≤ n) (λ t f is. (let r = f is in omega arith)) k.closing h.closing;
        shape = All-set (λ (t : Slot). EndsIn t.drawn t.held t.phase) m.slots i now k.shape h.shape;
        most = λ x. omega (arith, all_finished x, done_changed x, h.most x, k.most x);
        done = λ x lt. (let was = h.done x (omega arith) in let is = k.done x lt in omega (arith, all_finished x, done_changed x));
        sound = λ faults honest. (let r = honest_push faults past e honest in let all = h.sound faults r.0 in
            all_changed m.slots i s now at (IsSound faults m.bar) (IsSound faults b) (sound_below faults below_bar) (k.sound faults r.1 (its m.slots i s now at (IsSound faults m.bar) all)) all);
        reach = λ faults honest. (let r = honest_push faults past e honest in k.reach faults r.1 (h.reach faults r.0));
      }

-- ---- each kind of step keeps it

same_done : (s : Slot) → s.held ≡ None → s.phase ≡ Running → done_of s ≡ s.drawn
same_done s free runs = ap (λ (o : Option ℕ). done_in s.drawn o s.phase) free ∙ ap (done_in s.drawn None) runs

held_done : (s : Slot) (c : ℕ) → s.held ≡ Some c → done_of s ≡ but_last s.drawn
held_done s c held = ap (λ (o : Option ℕ). done_in s.drawn o s.phase) held

held_last : (s : Slot) (c : ℕ) → s.held ≡ Some c → s.phase ≡ Running → EndsIn s.drawn s.held s.phase → s.drawn ≡ but_last s.drawn ++ c ∷ []
held_last s c held runs shape = subst (EndsIn s.drawn (Some c)) runs (subst (λ (o : Option ℕ). EndsIn s.drawn o s.phase) held shape)

-- 1 where c is k alone
pub only : (k c : ℕ) → 0 < cond (c == k) 1 0 → c ≡ k
only k c more = grind (arith, common_steps)

-- a number below the bar isn't one at or above it
apart : (c bar x : ℕ) → bar ≤ c → x < bar → one_if x c ≡ 0
apart c bar x high low = grind (arith, common_steps)

-- the last of numbers below n is below n
last_under : (xs ys : List ℕ) (c n : ℕ) → xs ≡ ys ++ c ∷ [] → All (λ y. y < n) xs → c < n
last_under xs ys c n is all = (All-pop (λ y. y < n) xs ys (Some c) is all).1

module _ (clusters slots : ℕ) (past : List Event) (m : Machine) (h : Holds clusters slots past m) where
  -- where the bar stays, and the slot had no fault
  reach_kept : (e : Event) (s now : Slot) → slice_get m.slots (slot_of e) ≡ Some s → s.phase ≡ Running → (faults : List (Option LoopFault)) → IsReached clusters faults m.bar (slot_faults m) → IsReached clusters faults m.bar (flat_map fault_in (set m.slots (slot_of e) now))
  reach_kept e s now at runs faults r = ⊎_elim
      (λ (is : m.bar ≡ clusters). inl is)
      (λ (g : (g : LoopFault) × Among g (slot_faults m) × (slice_get faults m.bar ≡ Some (Some g))). inr (g.0, among_kept g.0 m.slots (slot_of e) s now at runs g.1, g.2))
      r

  -- a slot that gives up the cluster that it holds, or ends, draws nothing
  given_up : (e : Event) (s : Slot) (p : Phase) (b : ℕ) → slice_get m.slots (slot_of e) ≡ Some s → b ≤ m.bar → (p ≡ Ended → b ≤ m.next)
      → ((x : ℕ) → times x (finished (e ∷ [])) + times x (done_of s) ≤ times x (done_in s.drawn None p))
      → ((x : ℕ) → x < b → times x (finished (e ∷ [])) + times x (done_of s) ≡ times x (done_in s.drawn None p))
      → ((faults : List (Option LoopFault)) → IsHonestEvent faults e → IsSound faults m.bar s → IsSound faults b (slot_with s.drawn None p))
      → ((faults : List (Option LoopFault)) → IsHonestEvent faults e → IsReached clusters faults m.bar (slot_faults m) → IsReached clusters faults b (flat_map fault_in (set m.slots (slot_of e) (slot_with s.drawn None p))))
      → (after : Machine) → after ≡ changed m (slot_of e) (left m.next b (slot_with s.drawn None p)) → Holds clusters slots (past ++ e ∷ []) after
  given_up e s p b at lower closing most done sound reach after is = subst (Holds clusters slots (past ++ e ∷ [])) (sym is)
      (after_step clusters slots past m e h s (slot_with s.drawn None p) m.next b at record {
        rises = its m.slots (slot_of e) s s at (λ (x : Slot). IsStrictlyIncreasing x.drawn) h.rise;
        under = its m.slots (slot_of e) s s at (λ (x : Slot). All (λ y. y < m.next) x.drawn) h.under;
        more = omega arith;
        lower = lower;
        once = λ x. omega arith;
        few = h.few;
        closing = closing;
        shape = tt;
        most = most;
        done = done;
        sound = sound;
        reach = reach;
      })

  pub keeps_event : (e : Event) (after : Machine) → IsStepped clusters m e after → Holds clusters slots (past ++ e ∷ []) after
  keeps_event (Claim i c) after t =
      let s = t.slot in
      let up = its m.slots i s t.leaves.slot t.at (λ (x : Slot). IsStrictlyIncreasing x.drawn) h.rise in
      let under = its m.slots i s t.leaves.slot t.at (λ (x : Slot). All (λ y. y < m.next) x.drawn) h.under in
      let now = slot_with (s.drawn ++ m.next ∷ []) (Some m.next) Running in
      let last = but_last_push s.drawn m.next in
      let all_done : (x : ℕ) → times x (finished (Claim i c ∷ [])) + times x (done_of s) ≡ times x (done_of now) = λ x. omega (arith, ap (times x) (same_done s t.how.0 t.runs), ap (times x) last) in
      subst (Holds clusters slots (past ++ Claim i c ∷ [])) (ap (changed m i) (sym t.how.2) ∙ sym t.is)
      (after_step clusters slots past m (Claim i c) h s now (m.next + 1) m.bar t.at record {
        rises = rises_push s.drawn m.next up under;
        under = All-push (λ y. y < m.next + 1) s.drawn m.next (All-weaker (λ y. y < m.next) (λ y. y < m.next + 1) (λ y lt. omega arith) s.drawn under) (omega arith);
        more = omega arith;
        lower = omega arith;
        once = λ x. omega (arith, times_push x s.drawn m.next, once_next x m.next);
        few = (let lt = t.how.1 in omega arith);
        closing = λ is. absurd (cc);
        shape = ap (λ l. l ++ m.next ∷ []) (sym last);
        most = λ x. omega (arith, all_done x);
        done = λ x lt. all_done x;
        sound = λ faults honest known. record { done = λ k some. known.done k (subst (λ l. 0 < times k l) (last ∙ sym (same_done s t.how.0 t.runs)) some); fault = tt };
        reach = λ faults honest r. reach_kept (Claim i c) s now t.at t.runs faults r;
      })
  keeps_event (Finish i c) after t =
      let s = t.slot in
      let last = held_last s c t.how.0 t.runs (its m.slots i s s t.at (λ (x : Slot). EndsIn x.drawn x.held x.phase) h.shape) in
      let all_done : (x : ℕ) → times x (finished (Finish i c ∷ [])) + times x (done_of s) ≡ times x s.drawn = λ x. omega (arith, ap (times x) (held_done s c t.how.0), ap (times x) last, times_push x (but_last s.drawn) c, times_push x [] c) in
      given_up (Finish i c) s Running m.bar t.at (omega arith) (λ is. absurd (cc)) (λ x. omega (arith, all_done x)) (λ x lt. all_done x)
      (λ faults honest known. record {
        done = λ k some lt. grind (arith, common_steps, known.done k, held_done s c t.how.0, ap (times k) last, times_push k (but_last s.drawn) c, honest);
        fault = tt;
      })
      (λ faults honest r. reach_kept (Finish i c) s (slot_with s.drawn None Running) t.at t.runs faults r) after (t.is ∙ ap (changed m i) t.how.1)
  keeps_event (Fault i c f) after t =
      let s = t.slot in
      let last = held_last s c t.how.0 t.runs (its m.slots i s s t.at (λ (x : Slot). EndsIn x.drawn x.held x.phase) h.shape) in
      let now = slot_with s.drawn None (Faulted f) in
      let all_done : (x : ℕ) → times x (finished (Fault i c f ∷ [])) + times x (done_of s) ≡ times x (done_of now) = λ x. omega (arith, ap (times x) (held_done s c t.how.0)) in
      given_up (Fault i c f) s (Faulted f) (min m.bar c) t.at (omega arith) (λ is. absurd (cc)) (λ x. omega (arith, all_done x)) (λ x lt. all_done x)
      (λ faults honest known. record {
        done = λ k some lt. known.done k (subst (λ l. 0 < times k l) (sym (held_done s c t.how.0)) some) (omega arith);
        fault = (c, last, honest);
      })
      (λ faults honest r. ⊎_elim
      (λ (lt : c < m.bar). let is : c ≡ min m.bar c = omega arith in inr (f, among_new f m.slots i s now t.at (inl refl), subst (λ j. slice_get faults j ≡ Some (Some f)) is honest))
      (λ (le : m.bar ≤ c). let is : m.bar ≡ min m.bar c = omega arith in subst (λ j. IsReached clusters faults j (flat_map fault_in (set m.slots i now))) is (reach_kept (Fault i c f) s now t.at t.runs faults r))
      (cases_lt c m.bar)) after (t.is ∙ ap (changed m i) t.how.1)
  keeps_event (Skip i c) after t =
      let s = t.slot in
      let last = held_last s c t.how.0 t.runs (its m.slots i s s t.at (λ (x : Slot). EndsIn x.drawn x.held x.phase) h.shape) in
      let one_more : (x : ℕ) → times x s.drawn ≡ times x (done_of s) + one_if x c = λ x. omega (arith, ap (times x) (held_done s c t.how.0), ap (times x) last, times_push x (but_last s.drawn) c) in
      given_up (Skip i c) s Ended m.bar t.at (omega arith)
      (λ is. (let high = t.how.1 in let lower = last_under s.drawn (but_last s.drawn) c m.next last (its m.slots i s s t.at (λ (x : Slot). All (λ y. y < m.next) x.drawn) h.under) in omega arith))
      (λ x. omega (arith, one_more x)) (λ x lt. omega (arith, one_more x, apart c m.bar x t.how.1 lt))
      (λ faults honest known. record { done = λ k some lt. known.done k (omega (arith, some, one_more k, apart c m.bar k t.how.1 lt)) lt; fault = tt })
      (λ faults honest r. reach_kept (Skip i c) s (slot_with s.drawn None Ended) t.at t.runs faults r) after (t.is ∙ ap (changed m i) t.how.2)
  keeps_event (End i) after t =
      let s = t.slot in
      let all_done : (x : ℕ) → times x (finished (End i ∷ [])) + times x (done_of s) ≡ times x s.drawn = λ x. omega (arith, ap (times x) (same_done s t.how.0 t.runs)) in
      given_up (End i) s Ended m.bar t.at (omega arith) (λ is. (let over = t.how.1 in let low = h.low in omega arith)) (λ x. omega (arith, all_done x)) (λ x lt. all_done x)
      (λ faults honest known. record { done = λ k some. known.done k (subst (λ l. 0 < times k l) (sym (same_done s t.how.0 t.runs)) some); fault = tt })
      (λ faults honest r. reach_kept (End i) s (slot_with s.drawn None Ended) t.at t.runs faults r) after (t.is ∙ ap (changed m i) t.how.2)

-- ---- the opening of the machine, and its end

pub opens : (clusters slots : ℕ) → Holds clusters slots [] (opening clusters slots)
opens clusters slots =
    let s : Slot = record { drawn = []; held = None; phase = Running } in
    let none : (x : ℕ) → sum_by (λ (t : Slot). times x (done_of t)) (opening clusters slots).slots ≡ 0 = λ x. sum_by-replicate (λ (t : Slot). times x (done_of t)) slots s ∙ mul-zero slots in
    record {
      rise = All-replicate (λ (t : Slot). IsStrictlyIncreasing t.drawn) slots s none_rises;
      under = All-replicate (λ (t : Slot). All (λ y. y < 0) t.drawn) slots s (All-nil (λ (y : ℕ). y < 0));
      once = λ x. sum_by-replicate (λ (t : Slot). times x t.drawn) slots s ∙ omega (arith, times_below x 0, mul-zero slots);
      few = omega arith;
      low = omega arith;
      many = length-replicate slots s;
      closing = All-replicate (λ (t : Slot). t.phase ≡ Ended → clusters ≤ 0) slots s (λ is. absurd (cc));
      shape = All-replicate (λ (t : Slot). EndsIn t.drawn t.held t.phase) slots s tt;
      most = λ x. omega arith;
      done = λ x lt. sym (none x);
      sound = λ faults honest. All-replicate (IsSound faults clusters) slots s record { done = λ c some lt. absurd (omega arith); fault = tt };
      reach = λ faults honest. inl refl;
    }

pub holds : (clusters slots : ℕ) (es : List Event) (m : Machine) → replayed clusters slots es ≡ Ok m → Holds clusters slots es m
holds clusters slots es m h = replays clusters (Holds clusters slots) (λ past m e after p t. keeps_event clusters slots past m p e after t) 0 [] es (opening clusters slots) m (opens clusters slots) h

pub each_is_drawn_once : EachIsDrawnOnce
each_is_drawn_once clusters slots es m h =
    let k = holds clusters slots es m h in
    drawn_by_counts (drawn_lists m) m.next (All-map IsStrictlyIncreasing (λ (s : Slot). s.drawn) m.slots k.rise, λ x. sum_by-map (times x) (λ (s : Slot). s.drawn) m.slots ∙ k.once x)

-- what one slot that is over tells
slot_told : (faults : List (Option LoopFault)) (bar : ℕ) (drawn : List ℕ) (held : Option ℕ) (phase : Phase) → IsTrue (is_over phase) → EndsIn drawn held phase → IsSound faults bar (record { drawn = drawn; held = held; phase = phase }) → Told faults bar drawn (fault_of phase)
slot_told faults bar drawn held Running over ends sound = absurd (cc)
slot_told faults bar drawn (Some c) phase over ends sound = elim ends [ ]
slot_told faults bar drawn None Ended over ends sound = record { sound = λ c some lt. inl (sound.done c some lt); own = λ f a. elim a [ ] }
slot_told faults bar drawn None (Faulted g) over ends sound =
    let own = sound.fault in
    let counted : (c : ℕ) → times c drawn ≡ times c (but_last drawn) + one_if c own.0 = λ c. ap (times c) own.1 ∙ times_push c (but_last drawn) own.0 in
    record { sound = λ c some lt. grind (arith, common_steps, counted c, sound.done c, own); own = λ f a. grind (arith, common_steps, counted own.0, own) }

slots_told : (faults : List (Option LoopFault)) (bar : ℕ) (slots : List Slot) → All (λ (s : Slot). IsTrue (is_over s.phase)) slots → All (λ (s : Slot). EndsIn s.drawn s.held s.phase) slots → All (IsSound faults bar) slots
    → Told faults bar (concat (map (λ (s : Slot). s.drawn) slots)) (flat_map (λ (s : Slot). fault_of s.phase) slots)
slots_told faults bar [] over ends sound = told_nothing faults bar
slots_told faults bar (s ∷ ss) over ends sound =
    told_both faults bar s.drawn (concat (map (λ (t : Slot). t.drawn) ss)) (fault_of s.phase) (flat_map (λ (t : Slot). fault_of t.phase) ss)
    (slot_told faults bar s.drawn s.held s.phase (All-head (λ (t : Slot). IsTrue (is_over t.phase)) s ss over) (All-head (λ (t : Slot). EndsIn t.drawn t.held t.phase) s ss ends) (All-head (IsSound faults bar) s ss sound))
    (slots_told faults bar ss (All-tail (λ (t : Slot). IsTrue (is_over t.phase)) s ss over) (All-tail (λ (t : Slot). EndsIn t.drawn t.held t.phase) s ss ends) (All-tail (IsSound faults bar) s ss sound))

-- where no slot faulted, each that is over ended
all_ended : (slots : List Slot) → All (λ (s : Slot). IsTrue (is_over s.phase)) slots → flat_map (λ (s : Slot). fault_of s.phase) slots ≡ [] → All (λ (s : Slot). s.phase ≡ Ended) slots
all_ended [] over none = All-nil (λ (s : Slot). s.phase ≡ Ended)
all_ended (s ∷ ss) over none =
    let first : (s.phase ≡ Ended) × (flat_map (λ (t : Slot). fault_of t.phase) ss ≡ []) = grind (arith, All-head (λ (t : Slot). IsTrue (is_over t.phase)) s ss over, none) in
    All-cons (λ (t : Slot). t.phase ≡ Ended) s ss first.0 (all_ended ss (All-tail (λ (t : Slot). IsTrue (is_over t.phase)) s ss over) first.1)

-- the clusters of slots that all ended are done
ended_done : (x : ℕ) (slots : List Slot) → All (λ (s : Slot). s.phase ≡ Ended) slots → All (λ (s : Slot). EndsIn s.drawn s.held s.phase) slots → sum_by (λ (s : Slot). times x (done_of s)) slots ≡ sum_by (λ (s : Slot). times x s.drawn) slots
ended_done x [] all ends = refl
ended_done x (s ∷ ss) all ends =
    let first : done_of s ≡ s.drawn = grind (arith, All-head (λ (t : Slot). t.phase ≡ Ended) s ss all, All-head (λ (t : Slot). EndsIn t.drawn t.held t.phase) s ss ends) in
    let rest = ended_done x ss (All-tail (λ (t : Slot). t.phase ≡ Ended) s ss all) (All-tail (λ (t : Slot). EndsIn t.drawn t.held t.phase) s ss ends) in
    omega (arith, sum_by-cons (λ (t : Slot). times x (done_of t)) s ss, sum_by-cons (λ (t : Slot). times x t.drawn) s ss, ap (times x) first)

pub first_fault_is_told : FirstFaultIsTold
first_fault_is_told clusters slots es m faults some h over size order honest =
    let k = holds clusters slots es m h in
    let drawn = concat (drawn_lists m) in
    let count : (c : ℕ) → times c drawn ≡ once_below c m.next = λ c. times_concat c (drawn_lists m) ∙ sum_by-map (times c) (λ (s : Slot). s.drawn) m.slots ∙ k.once c in
    let high : slot_faults m ≡ [] → m.bar ≡ clusters = λ none. ⊎_elim (λ (is : m.bar ≡ clusters). is) (λ (g : (g : LoopFault) × Among g (slot_faults m) × (slice_get faults m.bar ≡ Some (Some g))). absurd (subst (Among g.0) none g.1)) (k.reach faults honest) in
    let all_over : slot_faults m ≡ [] → m.next ≡ clusters = λ none. (let bar = high none in let s = slot_with [] None Running in let first : 0 < length m.slots = omega (arith, k.many) in let le = k.closing 0 s first (all_ended m.slots over none 0 s first) in let few = k.few in omega arith) in
    let reaches : Reaches faults m.bar (slot_faults m) = ⊎_elim (λ (is : m.bar ≡ clusters). inl (omega arith)) (λ (g : (g : LoopFault) × Among g (slot_faults m) × (slice_get faults m.bar ≡ Some (Some g))). inr g) (k.reach faults honest) in (
      first_told faults m.bar m.next drawn (slot_faults m) order
          (slots_told faults m.bar m.slots over k.shape (k.sound faults honest)) reaches
          (λ c lt. omega (arith, count c, once_inside c m.next lt))
          (λ c there. inside_once c m.next (omega (arith, count c)))
          (λ none. let same = all_over none in omega arith),
      λ none. permuted_by_counts (below clusters) (finished es) (λ x. each_finished k none (all_over none) (high none) x ∙ sym (times_below x clusters)),
    )
  where
    each_finished : Holds clusters slots es m → slot_faults m ≡ [] → m.next ≡ clusters → m.bar ≡ clusters → (x : ℕ) → times x (finished es) ≡ once_below x clusters
    each_finished k none all bar x =
        let whole = ended_done x m.slots (all_ended m.slots over none) k.shape ∙ k.once x ∙ ap (once_below x) all in
        grind (arith, common_steps, whole, k.done x, k.most x)
