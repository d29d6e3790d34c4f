-- A tally after a block fed a pass, and at the ends of a block.
use Rattle.lemmas.proofs.{◌≡◌, ℕ, ◌+◌, ◌<◌, ◌≤◌, List, [], ◌++◌, length, map, Option, None, Some, inl, inr, sym, ap, ap₂, ◌∙◌, subst, arith, append_assoc, OnOk, Result, slice_get, slice_set, ◌^◌, ◌∷◌, set, get_or, get_or-set_same, get_or-set_other, count_by, length-map, length-set, mapped_at, same_Some, slice_get_within, something_at, cases_eq, common_steps, get_or-map, get_or_from_slice_get, map-set_same, same_lists}
use Rattle.rdf_values.proofs.UnionLemmas.{map-below, length-below, slice_get-below}
use Rattle.rdf_values.specs.{ActionKind, below}
use Rattle.rdf_model.specs.declared.loop_facts.LoopFacts.{LoopFacts}
use Rattle.actions.specs.{Accumulator, Batch, batch_items, Fed, from_cluster, HasFed, IsTake, places_of}
use Rattle.loop_pieces.specs.{entries_over, AreCounts, both, Counts, nothing}
use Rattle.cluster_tally.specs.{block_items, BlockStage, CanFeedBatch, CanTakeIn, CanWatch, counts_by, fed_by, first_items, HoldsIn, HoldsUpTo, IsFedAlone, IsFedBy, pass_done, places_there, taken_in, TakesIn, TallyView, TookIn, TookInIfThere, block_reaches, CanNoteCounts, counts_in, filter_done}
use Rattle.cluster_tally.proofs.Closing.{at_set, kind_at, of_mapped, places_kept, entries_room, in_before, in_from, in_same, items_next, counts_next, counts_room, counts_same}
use Rattle.rdf_model.specs.{is_passed, is_reached, Reach}
use Rattle.cluster_tally.specs.Laws as law

-- an action that is watched keeps no values
pub none_kept : (k : ActionKind) → CanWatch k → IsTake k → ⊥
none_kept k w t = grind arith

-- ---- the ends of a block

-- where as many entries are taken in at each place, the same is held
held_alike : (f : LoopFacts) (watched done : List ℕ) (cluster : ℕ) (fed told fed' told' : ℕ → ℕ) (t : TallyView) → ((i : ℕ) → i < length f.kinds → fed i ≡ fed' i) → ((i : ℕ) → i < f.filters → told i ≡ told' i)
    → HoldsUpTo f watched done cluster fed told t → HoldsUpTo f watched done cluster fed' told' t
held_alike f watched done cluster fed told fed' told' t items counts h = record {
  facts = h.facts;
  rises = h.rises;
  above = h.above;
  kinds = h.kinds;
  accs = λ i acc at. subst (λ n. IsFedBy f done cluster n i acc) (items i (omega (arith, slice_get_within t.accs i acc at, kinds_many))) (h.accs i acc at);
  flow = h.flow ∙ map-below f.filters (λ i. counts_by f done cluster (told i) i) (λ i. counts_by f done cluster (told' i) i) (λ i lt. ap (λ n. counts_by f done cluster n i) (counts i lt));
  many = h.many;
  places = h.places;
  alone = λ i acc at. subst (λ n. IsFedAlone f cluster n i acc) (items i (omega (arith, slice_get_within t.watched i (Some acc) at, kinds_many, h.many))) (h.alone i acc at);
  trails = h.trails;
}
  where
    kinds_many : length t.accs ≡ length f.kinds
    kinds_many = sym (length-map t.accs kind_at) ∙ ap length h.kinds

pub begins_block : law.BeginsBlock
begins_block f watched s t block passes filters h = held_alike f watched s.done s.cluster _ _ _ _ t (λ i lt. grind (arith, in_from)) (λ i lt. grind (arith, in_from)) h

pub ends_block : law.EndsBlock
ends_block f watched s t passes filters h = held_alike f watched s.done s.cluster _ _ _ _ t (λ i lt. grind (arith, in_before, in_from)) (λ i lt. grind (arith, in_before, in_from)) h

-- ---- a pass that is fed

module _ (f : LoopFacts) (watched : List ℕ) (s : BlockStage) (t : TallyView) (pass cluster : ℕ) (batch : Batch) (can : CanFeedBatch f watched s t pass cluster batch) where
  pub its_acc : (acc : Accumulator) × (slice_get t.accs pass ≡ Some acc) × (acc.kind ≡ can.kind)
  its_acc =
      let of = of_mapped kind_at t.accs pass can.kind (ap (λ l. slice_get l pass) can.holds.kinds ∙ can.its_kind) in
      (of.0, of.1, sym of.2)

  its_kind : (acc : Accumulator) → slice_get t.accs pass ≡ Some acc → acc.kind ≡ can.kind
  its_kind acc at = same_Some acc.kind can.kind (sym (mapped_at kind_at t.accs pass acc at) ∙ ap (λ l. slice_get l pass) can.holds.kinds ∙ can.its_kind)

  alone_kind : (acc : Accumulator) → slice_get t.watched pass ≡ Some (Some acc) → acc.kind ≡ can.kind
  alone_kind acc at = same_Some acc.kind can.kind (sym (can.holds.alone pass acc at).kind ∙ can.its_kind)

  at_now : taken_in s.entries s.block s.passes pass ≡ s.entries
  at_now = in_from s.entries s.block s.passes pass (omega (arith, can.at_pass))

  at_next : taken_in s.entries s.block (s.passes + 1) pass ≡ s.entries + s.block
  at_next = in_before s.entries s.block (s.passes + 1) pass (omega (arith, can.at_pass))

  -- an accumulator of the pass can take the batch in
  can_take_in : (done : List ℕ) (acc : Accumulator) → entries_over f done ≤ entries_over f s.done → acc.kind ≡ can.kind → IsFedBy f done s.cluster (taken_in s.entries s.block s.passes pass) pass acc
      → CanTakeIn cluster batch acc
  can_take_in done acc fewer same h = grind (arith, entries_room, at_now)

  pub can_take : (acc : Accumulator) → slice_get t.accs pass ≡ Some acc → CanTakeIn cluster batch acc
  can_take acc at = can_take_in s.done acc (omega arith) (its_kind acc at) (can.holds.accs pass acc at)

  pub can_take_alone : (acc : Accumulator) → slice_get t.watched pass ≡ Some (Some acc) → CanTakeIn cluster batch acc
  can_take_alone acc at = can_take_in [] acc (omega arith) (alone_kind acc at) (can.holds.alone pass acc at).held

  pub within : pass < length t.accs
  within = slice_get_within t.accs pass its_acc.0 its_acc.1

  pub within_watched : pass < length t.watched
  within_watched = omega (arith, within, can.holds.many)

  -- then it was fed the block too
  took_in : (done : List ℕ) (old now : Accumulator) → TakesIn cluster batch old now → old.kind ≡ can.kind → IsFedBy f done s.cluster (taken_in s.entries s.block s.passes pass) pass old
      → IsFedBy f done s.cluster (taken_in s.entries s.block (s.passes + 1) pass) pass now
  took_in done old now takes same h = record {
    fed = subst (HasFed now) all (takes.fed (fed_by f done s.cluster (taken_in s.entries s.block s.passes pass) pass) h.fed);
    few = omega (arith, h.few, takes.entries, at_now, at_next, can.few);
    last = omega (arith, takes.last, can.at_cluster);
  }
    where
      of : ℕ → List Fed
      of n = from_cluster s.cluster (first_items f s.cluster n pass)

      news : from_cluster cluster (batch_items old.kind batch) ≡ from_cluster s.cluster (block_items f s pass)
      news = ap₂ from_cluster (sym can.at_cluster) (ap (λ k. batch_items k batch) same ∙ can.fed)

      all : fed_by f done s.cluster (taken_in s.entries s.block s.passes pass) pass ++ from_cluster cluster (batch_items old.kind batch) ≡ fed_by f done s.cluster (taken_in s.entries s.block (s.passes + 1) pass) pass
      all = grind (arith, append_assoc, of, at_now, news, items_next, at_next)

  -- the others are as they were
  same_taken : (i : ℕ) → (i ≡ pass → ⊥) → taken_in s.entries s.block s.passes i ≡ taken_in s.entries s.block (s.passes + 1) i
  same_taken i ne = sym (in_same s.entries s.block s.passes i (λ e. ne (e ∙ can.at_pass)))

  fed_still : (i : ℕ) → (i ≡ pass → ⊥) → (acc : Accumulator) → slice_get t.accs i ≡ Some acc → IsFedBy f s.done s.cluster (taken_in s.entries s.block (s.passes + 1) i) i acc
  fed_still i ne acc at = subst (λ n. IsFedBy f s.done s.cluster n i acc) (same_taken i ne) (can.holds.accs i acc at)

  alone_still : (i : ℕ) → (i ≡ pass → ⊥) → (acc : Accumulator) → slice_get t.watched i ≡ Some (Some acc) → IsFedAlone f s.cluster (taken_in s.entries s.block (s.passes + 1) i) i acc
  alone_still i ne acc at = subst (λ n. IsFedAlone f s.cluster n i acc) (same_taken i ne) (can.holds.alone i acc at)

  module _ (accs : List Accumulator) (alone : List (Option Accumulator)) (are : TookIn pass cluster batch t.accs accs) (also : TookInIfThere pass cluster batch t.watched alone) where
    fed_all : (i : ℕ) (acc : Accumulator) → slice_get accs i ≡ Some acc → IsFedBy f s.done s.cluster (taken_in s.entries s.block (s.passes + 1) i) i acc
    fed_all i acc at = elim (at_set t.accs pass are.now i acc (ap (λ l. slice_get l i) (sym are.rest) ∙ at)) [
      | inl p ↦ subst (λ k. IsFedBy f s.done s.cluster (taken_in s.entries s.block (s.passes + 1) k) k acc) (sym p.0)
          (subst (IsFedBy f s.done s.cluster (taken_in s.entries s.block (s.passes + 1) pass) pass) (sym p.1)
          (took_in s.done are.acc are.now are.takes (its_kind are.acc are.its_place) (can.holds.accs pass are.acc are.its_place)))
      | inr p ↦ fed_still i p.0 acc p.1
    ]

    -- what becomes of the watched accumulators
    pub record AloneAfter : Type 0 where
      pub many : length alone ≡ length t.watched
      pub places : places_there 0 alone ≡ places_there 0 t.watched
      pub each : (i : ℕ) (acc : Accumulator) → slice_get alone i ≡ Some (Some acc) → IsFedAlone f s.cluster (taken_in s.entries s.block (s.passes + 1) i) i acc

    unwatched : slice_get t.watched pass ≡ Some None → AloneAfter
    unwatched none =
        let same = also.none none in
        record {
          many = ap length same;
          places = ap (places_there 0) same;
          each = λ i acc at. (
              let before = ap (λ l. slice_get l i) (sym same) ∙ at in
              alone_still i (λ e. (let two = ap (slice_get t.watched) (sym e) ∙ before in let three = sym none ∙ two in absurd (cc))) acc before);
        }

    watched_one : (old : Accumulator) → slice_get t.watched pass ≡ Some (Some old) → AloneAfter
    watched_one old here =
        let is = also.some old here in
        let was = can.holds.alone pass old here in
        record {
          many = ap length is.2 ∙ length-set t.watched pass (Some is.0);
          places = ap (places_there 0) is.2 ∙ places_kept t.watched 0 pass is.0 old here;
          each = λ i acc at. elim (at_set t.watched pass (Some is.0) i (Some acc) (ap (λ l. slice_get l i) (sym is.2) ∙ at)) [
            | inl p ↦ (let same : acc ≡ is.0 = same_Some acc is.0 p.1 in
                subst (λ k. IsFedAlone f s.cluster (taken_in s.entries s.block (s.passes + 1) k) k acc) (sym p.0) (subst (IsFedAlone f s.cluster (taken_in s.entries s.block (s.passes + 1) pass) pass) (sym same)
                (record { kind = was.kind ∙ ap Some (sym is.1.kind); watch = subst CanWatch (sym is.1.kind) was.watch; held = took_in [] old is.0 is.1 (alone_kind old here) was.held })))
            | inr p ↦ alone_still i p.0 acc p.1
          ];
        }

    alone_after : AloneAfter
    alone_after = let it = something_at t.watched pass within_watched in go it.0 it.1
      where
        go : (o : Option Accumulator) → slice_get t.watched pass ≡ Some o → AloneAfter
        go o h = grind (arith, unwatched, watched_one)

    pub holds_fed : HoldsIn f watched (pass_done s) (record { accs = accs; watched = alone; flow = t.flow; trails = t.trails })
    holds_fed =
        let h = can.holds in
        let a = alone_after in
        record {
          facts = h.facts;
          rises = h.rises;
          above = h.above;
          kinds = ap (map kind_at) are.rest ∙ map-set_same kind_at t.accs pass are.now are.acc (are.takes.kind ∙ ap kind_at (sym (get_or_from_slice_get t.accs pass are.acc are.acc are.its_place))) ∙ h.kinds;
          accs = fed_all;
          flow = h.flow;
          many = a.many ∙ h.many ∙ sym (ap length are.rest ∙ length-set t.accs pass are.now);
          places = a.places ∙ h.places;
          alone = a.each;
          trails = h.trails;
        }

-- what a feeding leaves at its place, where it succeeds
pub took : {T E : Type 0} (r : Result T E) (place cluster : ℕ) (batch : Batch) (accs : List Accumulator) (acc old now : Accumulator) → slice_get accs place ≡ Some acc → acc ≡ old → now.kind ≡ old.kind
    → OnOk r (now.entries ≡ old.entries + length (places_of batch.places)) → OnOk r (now.last ≡ cluster)
    → ((fed : List Fed) → HasFed old fed → OnOk r (HasFed now (fed ++ from_cluster cluster (batch_items old.kind batch))))
    → OnOk r (TookIn place cluster batch accs (slice_set accs place now))
took r place cluster batch accs acc old now h is kind entries last fed = grind arith

-- ---- a tally after a block's counts were noted of a filter

passed_few : (rs : List Reach) → count_by is_passed rs ≤ count_by is_reached rs
passed_few [] = omega arith
passed_few (r ∷ rs) = grind (arith, common_steps, passed_few rs)

at_below : {A : Type 0} (g : ℕ → A) (n i : ℕ) (d : A) → i < n → get_or (map g (below n)) i d ≡ g i
at_below g n i d lt = get_or-map g (below n) i i d (omega (arith, length-below n)) ∙ ap g (get_or_from_slice_get (below n) i i i (slice_get-below n i lt))

module _ (f : LoopFacts) (watched : List ℕ) (s : BlockStage) (t : TallyView) (filter : ℕ) (counts : Counts) (can : CanNoteCounts f watched s t filter counts) where
  many : length t.flow ≡ f.filters
  many = ap length can.holds.flow ∙ length-map (below f.filters) (counts_in f s) ∙ length-below f.filters

  pub filter_within : filter < length t.flow
  filter_within = omega (arith, can.inside, many)

  at_place : (i : ℕ) (d : Counts) → i < f.filters → get_or t.flow i d ≡ counts_in f s i
  at_place i d lt = ap (λ l. get_or l i d) can.holds.flow ∙ at_below (counts_in f s) f.filters i d lt

  pub are_counts : AreCounts counts
  are_counts =
      let all = ap (λ (c : Counts). c.all) can.come_to in
      let pass = ap (λ (c : Counts). c.pass) can.come_to in
      record {
        few = omega (arith, all, counts_room f watched s t can.holds filter);
        pass = omega (arith, all, pass, passed_few (block_reaches f s filter));
      }

  pub has_room : (get_or t.flow filter nothing).all + counts.all ≤ 2 ^ 32
  has_room = omega (arith, ap (λ (c : Counts). c.all) (at_place filter nothing can.inside), ap (λ (c : Counts). c.all) can.come_to, counts_room f watched s t can.holds filter)

  now_there : counts_in f (filter_done s) filter ≡ both (counts_in f s filter) counts
  now_there = grind (arith, counts_next)

  flow_now : (flow : List Counts) → flow ≡ set t.flow filter (both (get_or t.flow filter nothing) counts) → flow ≡ map (counts_in f (filter_done s)) (below f.filters)
  flow_now flow is = is ∙ same_lists (set t.flow filter one) all (length-set t.flow filter one ∙ many ∙ sym (length-map (below f.filters) (counts_in f (filter_done s)) ∙ length-below f.filters)) (λ i d lt. each i d (omega (arith, length-set t.flow filter one, many)))
    where
      one : Counts
      one = both (get_or t.flow filter nothing) counts

      all : List Counts
      all = map (counts_in f (filter_done s)) (below f.filters)

      wanted : (i : ℕ) (d : Counts) → i < f.filters → get_or all i d ≡ counts_in f (filter_done s) i
      wanted = at_below (counts_in f (filter_done s)) f.filters

      each : (i : ℕ) (d : Counts) → i < f.filters → get_or (set t.flow filter one) i d ≡ get_or all i d
      each i d lt = grind (arith, cases_eq i filter, get_or-set_same, get_or-set_other, filter_within, at_place, wanted, now_there, counts_same)

  pub holds_noted : (flow : List Counts) → flow ≡ set t.flow filter (both (get_or t.flow filter nothing) counts) → HoldsIn f watched (filter_done s) (record { accs = t.accs; watched = t.watched; flow = flow; trails = t.trails })
  holds_noted flow is = grind (arith, flow_now, many)
