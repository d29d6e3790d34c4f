-- The filling of a site, from its first evaluation to the last.
use Rattle.lemmas.proofs.{◌≡◌, ◌<◌, ◌≤◌, ◌+◌, ◌⊎◌, inl, inr, not, ℕ, Bool, true, false, List, [], ◌∷◌, length, Option, Some, None, Result, Ok, Err, IfOk, OnOk, refl, sym, ◌∙◌, ap, subst, arith, count_by, nat_eq, if◌then◌else◌, nat_lt, slice_get, cases_lt, Decides-eqb, filter, length-filter, lt-ltb, ltb-true, false_from_ne_true, not-true, same_some, true_from_ne_false}
use Rattle.rdf_values.specs.{EntryFault, Memory, Value, Bin, BinOp, Call, Col, ColType, Cond, End, fn_names, history, Lit, More, Neg, Not, Pick, Tree, Trees}
use Rattle.rdf_model.specs.{fault_in, Faults, Outcome, ◌>>=◌, call_outcome, evaluate, evaluate_all, is_need, Needs, operation, without}
use Rattle.expr_lanes.specs.{AreRising, EachPlace, is_in, IsSelected}
use Rattle.expr_lanes.proofs.Composed.{filter_all, filter_short, filtered_in}
use Rattle.graph_numbers.specs.{Source, graph_sites, graph_under, graph_versions, IsBelow, IsSiteExpr, SiteAt, version_count}
use Rattle.block_cache.specs.{AreReadyOver, begun_at, below_fault, found_or, holds_at, is_below, IsAttemptedFor, IsBrokenOffFor, IsFaultOf, IsGrownOver, IsPaidFor, IsPaidOver, IsResumedFor, IsSameAt, IsSettled, IsSettledFor, IsSettledTo, IsSpentFor, IsSpentOver, IsUnderwayFor, IsWaiting, LaneView, left_to_begin, need_at, own_key, PlaceFault, site_fault, block_graph, block_job, CanFill, CanFillFor, first_read, first_read_in, IsFilledFor, IsFilledTo, IsLeadFor, IsOnlyCalled, IsRankedBelow, key_over}
use Rattle.block_cache.proofs.LaneSteps.{filter_none, below_among, below_in, below_low, below_selected, below_short, fault_first, filter_in, filter_passes, filter_selected, open_among, open_few, open_lacks, open_low, open_rest, over_first, no_fault_over}
use Rattle.loop_keys.specs.{IsJob, IsSiteOf, job_graph, JobView, key, MeetsAt, site_in, source_at, ArePlain, key_count, ValuePlace, place_of, version_in}
use Rattle.block_cache.specs.declared.block.Wanted.{Wanted}
use Rattle.block_cache.proofs.OverLaws.{parts_of, held_no_fault, lacks_before, same_holds, same_on}
use Rattle.block_cache.proofs.Attempts.{key_lower, grown_below, grown_on, later_keys, other_places, settled_all, less_left, met_fault, can_below, falls_by_number, met_used, ranked, site_tree}
use Rattle.rdf_values.specs.expressions.Expressions.{Truth}
use Rattle.expr_check.specs.{CheckedExpr}
use Rattle.graph_numbers.proofs.Closing.{columns_below}
use Rattle.graph_numbers.proofs.Placing.{versions_count}
use Rattle.loop_keys.proofs.EvaluateLaws.{accepted_of, met_each}
use Rattle.loop_keys.proofs.KeyLaws.{key_small}

-- ---- small things

pub count_all : (ps : List ℕ) (f : ℕ → Bool) → EachPlace ps (λ p. f p ≡ true) → count_by f ps ≡ length ps
count_all ps f each = sym (length-filter f ps) ∙ ap (λ (l : List ℕ). length l) (filter_all f ps each)

-- the site of a source is one
pub same_site : (t r : ℕ) (x : Source) → IsSiteOf t x → IsSiteOf r x → t ≡ r
same_site t r x h i = grind arith

pub fault_lift : (f : ℕ → Option EntryFault) (group sel : List ℕ) (found : Option PlaceFault) → EachPlace group (λ p. is_in p sel ≡ true) → IsFaultOf f group found → IsFaultOf f sel found
fault_lift f group sel found sub h = grind arith

pub fault_or : (f : ℕ → Option EntryFault) (sel : List ℕ) (found fault : Option PlaceFault) → IsFaultOf f sel found → IsFaultOf f sel fault → IsFaultOf f sel (found_or found fault)
fault_or f sel found fault h i = grind arith

pub below_found : (found fault : Option PlaceFault) (p : ℕ) → is_below (found_or found fault) p ≡ true → is_below found p ≡ true
below_found found fault p h = grind arith

-- a fault at a place below another is the lower one
pub below_both : (f : ℕ → Option EntryFault) (group : List ℕ) (found fault : Option PlaceFault) (p : ℕ) → EachPlace group (λ q. is_below fault q ≡ true) → IsFaultOf f group found → is_below (found_or found fault) p ≡ true → is_below fault p ≡ true
below_both f group found fault p low h below = grind (arith, ltb-true, lt-ltb)

faults_of : (o : Outcome ⊥ Value) (k : EntryFault) → fault_in o ≡ Some k → o ≡ Faults k
faults_of o k h = grind (arith, same_some)

-- the fault of a site that is met at each place of a group is that of the site that meets it
pub fault_met : (j : JobView) (job : IsJob j) (first : ℕ) (u : Option ℕ) (s t : ℕ) (group : List ℕ) → EachPlace group (λ p. (c : ℕ) × MeetsAt j (first + p) u s c × IsSiteOf t (source_at j u c)) → (o : Option PlaceFault) → IsFaultOf (site_fault j first u t) group o
    → IsFaultOf (site_fault j first u s) group o
fault_met j job first u s t group meets None h = tt
fault_met j job first u s t group meets (Some x) h =
    let m = meets x.place h.0 in
    (h.0, ap fault_in (met_fault j job (first + x.place) u s m.0 t x.kind m.1 m.2 (faults_of (site_in j (first + x.place) u t) x.kind h.1)))

or_none : (found : Option PlaceFault) → found_or found None ≡ found
or_none found = grind arith

none_below : (fault : Option PlaceFault) → below_fault fault [] ≡ []
none_below fault = grind arith

none_open : (ps : List ℕ) (p : ℕ) → length ps ≡ 0 → is_in p ps ≡ true → ⊥
none_open [] p none h = cc h
none_open (q ∷ ps) p none h = absurd (omega (arith, none))

module _ {V : Type 0} {D : V → Type 0} {g : _} (w : Wanted V D g) where
  open parts_of w use {j, job, first, u, count, s, keys as n, own, at}

  other_key : (t : ℕ) → t < s → at t ≡ own → ⊥
  other_key t low e = let l = key_lower (job_graph j) t s u u low w.there in absurd (omega (arith, l, e))

  -- ---- the first evaluation

  module _
      {sel group : List ℕ} {before : List LaneView} (ready : AreReadyOver w.block.now before) (selected : IsSelected count sel []) (settled : IsSettledFor w before sel)
      (group_is : group ≡ filter (λ p. not (holds_at before (own_key w) p)) sel)
    where
      abbrev lacks0 : ℕ → Bool
      lacks0 p = not (holds_at before own p)

      group_in : EachPlace group (λ p. is_in p sel ≡ true)
      group_in p h = filtered_in lacks0 p sel (rw group_is at h)

      pub began_lacks : EachPlace group (λ p. holds_at before own p ≡ false)
      began_lacks p h = not-true (holds_at before own p) (filter_passes sel lacks0 p (rw group_is at h))

      in_group : (p : ℕ) → is_in p sel ≡ true → holds_at before own p ≡ false → is_in p group ≡ true
      in_group p i lacks = rw group_is (filter_in sel lacks0 p i (ap not lacks))

      pub began_selected : IsSelected count group []
      began_selected = filter_selected lacks0 selected group_is

      not_begun : EachPlace group (λ p. not (begun_at before own p) ≡ true)
      not_begun p h = ap not (false_from_ne_true (begun_at before own p) (λ e. cc (began_lacks p h, settled p (group_in p h) s (omega arith) e)))

      pub began : {new : List LaneView} {needs noted lacking : List ℕ} {least : Option PlaceFault} {start now : ℕ} → IsResumedFor w None group sel before new needs noted lacking least → now ≡ start + length group
          → IsUnderwayFor w sel before start new least lacking noted now
      began {new = new} {least = least} r cost = record {
        grown = grown;
        ready = r.attempted.ready;
        inside = selected.inside;
        small = selected.small;
        settled = λ p i low t lower begun.
            let same = r.attempted.same (at t) p (inl (other_key t lower)) in
            same_holds n before new (at t) p same ∙ settled p i t (omega (arith, lower)) (sym same.0 ∙ begun);
        fault_is = rw r.least_is (fault_or (site_fault j first u s) sel r.found None (fault_lift (site_fault j first u s) group sel r.found group_in r.attempted.found_is) tt);
        begun = λ p i lacks. r.attempted.begun p (in_group p i lacks);
        among = open_among (holds_at new own) _ _ r.open_is;
        low = open_low (holds_at new own) _ _ r.open_is;
        lacks = open_lacks (holds_at new own) _ _ r.open_is;
        waits = λ p h.
            let lacks = open_lacks (holds_at new own) _ _ r.open_is p h in
            let here = in_group p (open_among (holds_at new own) _ _ r.open_is p h) (lacks_before n before new own p (grown.grows p) lacks) in
            r.attempted.waits p here lacks (let low = open_low (holds_at new own) least _ r.open_is p h in below_found r.found None p (rw r.least_is at low));
        rest = open_rest (holds_at new own) _ _ r.open_is;
        few = (let m = selected.room in omega (arith, open_few (holds_at new own) _ _ r.open_is, m));
        paid =
            (let many = count_all group (λ p. not (begun_at before own p)) not_begun in
            let size = ap (λ (l : List ℕ). length l) group_is ∙ length-filter lacks0 sel in
            omega (arith, cost, many, size, r.attempted.newly));
      }
        where
          grown : IsGrownOver j first u s sel before new
          grown = r.attempted.grown sel group_in

      -- where no place stopped, none is open
      pub began_whole : {new : List LaneView} {needs noted lacking : List ℕ} {found : Option PlaceFault} → IsAttemptedFor w group before new needs noted found → EachPlace group (λ p. holds_at new own p ≡ true)
          → lacking ≡ [] → IsResumedFor w None group sel before new needs noted lacking found
      began_whole {new = new} {found = found} attempted whole none = record {
        found = found;
        attempted = attempted;
        least_is = sym (or_none found);
        open_is = none ∙ sym (ap (below_fault found) (filter_none (λ p. not (holds_at new own p)) sel (λ p i. ap not (holds p i))) ∙ none_below found);
      }
        where
          holds : (p : ℕ) → is_in p sel ≡ true → holds_at new own p ≡ true
          holds p i = true_from_ne_false (holds_at new own p) (λ e. cc (e, whole p (in_group p i (lacks_before n before new own p ((attempted.grown sel group_in).grows p) e))))

      -- else those that lack the value below the fault
      pub began_rest : {new : List LaneView} {needs noted after lacking : List ℕ} {found : Option PlaceFault} → IsAttemptedFor w group before new needs noted found → after ≡ noted
          → lacking ≡ below_fault found (filter (λ p. not (holds_at new own p)) sel)
          → IsResumedFor w None group sel before new needs after lacking found
      began_rest attempted same open_is = grind (arith, or_none)

      -- memory was wanted
      pub began_broken : {new : List LaneView} {start now : ℕ} → IsBrokenOffFor w group before new start now → IsSpentFor w sel before new start now
      began_broken b = record {
        grown = b.grown sel group_in;
        cost = omega (arith, count_all group (λ p. not (begun_at before own p)) not_begun, b.newly, b.few);
      }

  -- ---- a turn

  module _
      {sel : List ℕ} {before : List LaneView} {start : ℕ} {lanes : List LaneView} {fault : Option PlaceFault} {open_places needs : List ℕ} {now : ℕ}
      (h : IsUnderwayFor w sel before start lanes fault open_places needs now)
      {group : List ℕ} (c : ℕ) (group_is : group ≡ filter (λ p. nat_eq (need_at needs p) c) open_places) (p0 : ℕ) (first_is : is_in p0 group ≡ true)
    where
      abbrev needing : ℕ → Bool
      needing p = nat_eq (need_at needs p) c

      group_open : EachPlace group (λ p. is_in p open_places ≡ true)
      group_open p i = filtered_in needing p open_places (rw group_is at i)

      turn_in : EachPlace group (λ p. is_in p sel ≡ true)
      turn_in p i = h.among p (group_open p i)

      waiting : EachPlace group (λ p. IsWaiting j first u s lanes p c)
      waiting = grind (arith, Decides-eqb, filter_passes, group_open)

      pub turn_waits : IsWaiting j first u s lanes p0 c
      turn_waits = waiting p0 first_is

      pub turn_selected : IsSelected count group []
      turn_selected = record {
        small = h.small;
        inside = λ p i. h.inside p (turn_in p i);
        room = (let e = ap (λ (l : List ℕ). length l) group_is in omega (arith, h.few, e, filter_short needing open_places));
      }

      module _ (t : ℕ) (site : IsSiteOf t (source_at j u c)) where
        pub turn_lower : t < s
        turn_lower = let a = turn_waits in subst (λ (m : ℕ). m < s) (same_site a.site t (source_at j u c) a.source site) a.lower

        pub turn_settled : IsSettledTo j u t lanes group
        turn_settled p i r le begun = let lower = turn_lower in h.settled p (turn_in p i) (h.low p (group_open p i)) r (omega (arith, le, lower)) begun

        lacks_t : EachPlace group (λ p. holds_at lanes (at t) p ≡ false)
        lacks_t p i = let a = waiting p i in subst (λ (m : ℕ). holds_at lanes (at m) p ≡ false) (same_site a.site t (source_at j u c) a.source site) a.lacks

        meets_t : EachPlace group (λ p. (c : ℕ) × MeetsAt j (first + p) u s c × IsSiteOf t (source_at j u c))
        meets_t p i = (c, (waiting p i).met, site)

        -- memory was wanted below
        pub turn_spent : {new : List LaneView} {later : ℕ} → IsSpentOver j first u t group lanes new now later → IsSpentFor w sel before new start later
        turn_spent {new = new} spent = record {
          grown = grown_on j first u s sel before lanes new h.grown (grown_below j first u s sel lanes new group t turn_lower turn_in meets_t spent.grown);
          cost = omega (arith, h.paid, spent.cost);
        }

        module _
            {left : List ℕ} {mid : List LaneView} {under : Option PlaceFault} {then' : ℕ} (spent : IsSpentOver j first u t group lanes mid now then')
            (filled : IsPaidOver j first u count t group left lanes mid under now then') (settles : IsSettledTo j u t mid left)
            (begins : EachPlace group (λ p. holds_at lanes (key (job_graph j) t u) p ≡ false → begun_at mid (key (job_graph j) t u) p ≡ true))
          where
            left_group : EachPlace left (λ p. is_in p group ≡ true)
            left_group p i = below_among under group p (rw filled.filled.left_is at i)

            group_left : (p : ℕ) → is_in p group ≡ true → is_below under p ≡ true → is_in p left ≡ true
            group_left p i low = rw filled.filled.left_is (below_in under group p i low)

            out_left : (p : ℕ) → is_in p group ≡ false → is_in p left ≡ false
            out_left p out = false_from_ne_true (is_in p left) (λ i. cc (out, left_group p i))

            pub left_selected : IsSelected count left []
            left_selected = below_selected under turn_selected filled.filled.left_is

            pub left_lacks : EachPlace left (λ p. holds_at mid own p ≡ false)
            left_lacks p i = same_holds n lanes mid own p (later_keys j first u t group lanes mid spent.grown s p turn_lower w.there) ∙ h.lacks p (group_open p (left_group p i))

            -- memory was wanted in the site itself
            pub turn_broken : {new : List LaneView} {last : ℕ} → IsBrokenOffFor w left mid new then' last → IsSpentFor w sel before new start last
            turn_broken {new = new} b = record {
              grown = grown_on j first u s sel before lanes new h.grown (grown_on j first u s sel lanes mid new (grown_below j first u s sel lanes mid group t turn_lower turn_in meets_t spent.grown) (b.grown sel (λ p i. turn_in p (left_group p i))));
              cost =
                  (let many = count_all group (λ p. not (holds_at lanes (at t) p)) (λ p i. ap not (lacks_t p i)) in
                  let e = ap (λ (l : List ℕ). length l) filled.filled.left_is in
                  omega (arith, many, e, below_short under group, b.newly, b.few, filled.paid, h.paid));
            }

            under_t : IsFaultOf (site_fault j first u t) group under
            under_t = rw filled.filled.fault (over_first group (site_fault j first u t))

            module _
                {new : List LaneView} {noted lacking : List ℕ} {least : Option PlaceFault} {last : ℕ} (r : IsResumedFor w (found_or under fault) left open_places mid new needs noted lacking least)
                (cost : last ≡ then' + length left)
              where
                left_in : EachPlace left (λ p. is_in p sel ≡ true)
                left_in p i = turn_in p (left_group p i)

                grown_last : IsGrownOver j first u s sel mid new
                grown_last = r.attempted.grown sel left_in

                grown_turn : IsGrownOver j first u s sel lanes new
                grown_turn = grown_on j first u s sel lanes mid new (grown_below j first u s sel lanes mid group t turn_lower turn_in meets_t spent.grown) grown_last

                was_open : EachPlace lacking (λ p. is_in p open_places ≡ true)
                was_open = open_among (holds_at new own) _ _ r.open_is

                lacking_low : EachPlace lacking (λ p. is_below least p ≡ true)
                lacking_low = open_low (holds_at new own) _ _ r.open_is

                lacking_lacks : EachPlace lacking (λ p. holds_at new own p ≡ false)
                lacking_lacks = open_lacks (holds_at new own) _ _ r.open_is

                -- what is below the least fault is below each
                below_next : (p : ℕ) → is_below least p ≡ true → is_below (found_or under fault) p ≡ true
                below_next p low = below_both (site_fault j first u s) left r.found (found_or under fault) p left_low r.attempted.found_is (rw r.least_is at low)
                  where
                    left_low : EachPlace left (λ q. is_below (found_or under fault) q ≡ true)
                    left_low q i = go under (below_low under group q (rw filled.filled.left_is at i))
                      where
                        go : (o : Option PlaceFault) → is_below o q ≡ true → is_below (found_or o fault) q ≡ true
                        go None k = h.low q (group_open q (left_group q i))
                        go (Some x) k = k

                below_fault_before : (p : ℕ) → is_below least p ≡ true → is_below fault p ≡ true
                below_fault_before p low = below_both (site_fault j first u t) group under fault p (λ q i. h.low q (group_open q i)) under_t (below_next p low)

                in_left : (p : ℕ) → is_in p group ≡ true → is_below least p ≡ true → is_in p left ≡ true
                in_left p i low = group_left p i (below_found under fault p (below_next p low))

                same_there : (k p : ℕ) → is_in p group ≡ false → IsSameAt n lanes new k p
                same_there k p out = same_on n lanes mid new k p (other_places j first u t group lanes mid spent.grown k p out) (r.attempted.same k p (inr (out_left p out)))

                settled_turn : EachPlace sel (λ p. is_below least p ≡ true → (r : ℕ) → r < s → begun_at new (at r) p ≡ true → holds_at new (at r) p ≡ true)
                settled_turn p i low q lower begun = go (is_in p group) refl
                  where
                    go : (b : Bool) → is_in p group ≡ b → holds_at new (at q) p ≡ true
                    go false out = grind (arith, same_there, same_holds, below_fault_before, low)
                    go true in' =
                        let same = r.attempted.same (at q) p (inl (other_key q lower)) in
                        same_holds n mid new (at q) p same ∙ before_last (cases_lt t q) (sym same.0 ∙ begun)
                      where
                        before_last : (t < q) ⊎ (q ≤ t) → begun_at mid (at q) p ≡ true → holds_at mid (at q) p ≡ true
                        before_last (inr le) b = settles p (in_left p in' low) q le b
                        before_last (inl l) b =
                            let same = later_keys j first u t group lanes mid spent.grown q p l (omega (arith, lower, w.there)) in
                            same_holds n lanes mid (at q) p same ∙ h.settled p i (below_fault_before p low) q lower (sym same.0 ∙ b)

                waits_turn : EachPlace lacking (λ p. IsWaiting j first u s new p (need_at noted p))
                waits_turn p i = go (is_in p group) refl
                  where
                    low : is_below least p ≡ true
                    low = lacking_low p i

                    go : (b : Bool) → is_in p group ≡ b → IsWaiting j first u s new p (need_at noted p)
                    go true in' = r.attempted.waits p (in_left p in' low) (lacking_lacks p i) (below_found r.found (found_or under fault) p (rw r.least_is at low))
                    go false out = subst (λ (m : ℕ). IsWaiting j first u s new p m) (sym (r.attempted.others p (out_left p out))) (on (h.waits p (was_open p i)))
                      where
                        on : IsWaiting j first u s lanes p (need_at needs p) → IsWaiting j first u s new p (need_at needs p)
                        on a = record { there = a.there; site = a.site; source = a.source; lower = a.lower; lacks = same_holds n lanes new (at a.site) p (same_there (at a.site) p out) ∙ a.lacks; met = a.met }

                pub turned : IsUnderwayFor w sel before start new least lacking noted last
                turned = record {
                  grown = grown_on j first u s sel before lanes new h.grown grown_turn;
                  ready = r.attempted.ready;
                  inside = h.inside;
                  small = h.small;
                  settled = settled_turn;
                  fault_is =
                      rw r.least_is
                      (fault_or (site_fault j first u s) sel r.found (found_or under fault) (fault_lift (site_fault j first u s) left sel r.found left_in r.attempted.found_is) (fault_or (site_fault j first u s) sel under fault (fault_lift (site_fault j first u s) group sel under turn_in (fault_met j job first u s t group meets_t under under_t)) h.fault_is));
                  begun = λ p i lacks. grown_turn.stays own p (h.begun p i lacks);
                  among = λ p i. h.among p (was_open p i);
                  low = lacking_low;
                  lacks = lacking_lacks;
                  waits = waits_turn;
                  rest = λ p i low lacks. open_rest (holds_at new own) _ _ r.open_is p (h.rest p i (below_fault_before p low) (lacks_before n lanes new own p (grown_turn.grows p) lacks)) low lacks;
                  few = (let m = h.few in omega (arith, open_few (holds_at new own) _ _ r.open_is, m));
                  paid =
                      (let many = count_all group (λ p. not (holds_at lanes (at t) p)) (λ p i. ap not (lacks_t p i)) in
                      let e = ap (λ (l : List ℕ). length l) filled.filled.left_is in
                      omega (arith, cost, many, e, below_short under group, r.attempted.newly, filled.paid, h.paid));
                }

                -- something was newly begun
                pub turned_less : left_to_begin count new < left_to_begin count lanes
                turned_less = less_left lanes new (at t) p0 count (r.attempted.ready.many ∙ sym h.ready.many) grown_turn.stays (let small = key_small (job_graph j) t u (omega (arith, turn_lower, w.there)) in omega (arith, small, h.ready.many)) (h.inside p0 (turn_in p0 first_is)) not_begun (grown_last.stays (at t) p0 (begins p0 first_is (lacks_t p0 first_is)))
                  where
                    not_begun : begun_at lanes (at t) p0 ≡ false
                    not_begun = false_from_ne_true (begun_at lanes (at t) p0) (λ e. cc (lacks_t p0 first_is, turn_settled p0 first_is t (omega arith) e))

  -- ---- the end

  module _
      {sel : List ℕ} {before : List LaneView} {start : ℕ} {lanes : List LaneView} {fault : Option PlaceFault} {open_places needs : List ℕ} {now : ℕ}
      (h : IsUnderwayFor w sel before start lanes fault open_places needs now)
    where
      module _ (none : length open_places ≡ 0) where
        all_held : EachPlace sel (λ p. is_below fault p ≡ true → holds_at lanes own p ≡ true)
        all_held p i low = true_from_ne_false (holds_at lanes own p) (λ e. none_open open_places p none (h.rest p i low e))

        pub ended_filled : {left : List ℕ} → AreRising sel → left ≡ below_fault fault sel → IsPaidFor w sel left before lanes fault start now
        ended_filled rising left_is = record {
          filled = record {
            fault = fault_first fault sel (site_fault j first u s) rising h.fault_is (λ p i low. held_no_fault j first u count s w.there lanes h.ready p (h.inside p i) (all_held p i low));
            left_is = left_is;
            held = λ p i. let k = rw left_is at i in all_held p (below_among fault sel p k) (below_low fault sel p k);
            ready = h.ready;
          };
          paid = h.paid;
        }

        pub ended_settled : {left : List ℕ} → left ≡ below_fault fault sel → IsSettledFor w lanes left
        ended_settled left_is p i t le begun = go (cases_lt t s)
          where
            k : is_in p (below_fault fault sel) ≡ true
            k = rw left_is at i

            go : (t < s) ⊎ (s ≤ t) → holds_at lanes (at t) p ≡ true
            go (inl low) = h.settled p (below_among fault sel p k) (below_low fault sel p k) t low begun
            go (inr high) = let same : s ≡ t = omega (arith, le, high) in subst (λ (m : ℕ). holds_at lanes (at m) p ≡ true) same (all_held p (below_among fault sel p k) (below_low fault sel p k))

-- where all was settled, all is
pub settled_if : {V : Type 0} {D : V → Type 0} {g : _} (w : Wanted V D g) {sel : List ℕ} (left : List ℕ) {before after : List LaneView} {start end : ℕ} (r : Result (Option PlaceFault) Memory) → IsSettled before sel
    → IsSpentFor w sel before after start end → OnOk r (IsSettledFor w after left)
    → IfOk r (λ fault. IsPaidFor w sel left before after fault start end) → OnOk r (IsSettled after left)
settled_if w left (Ok fault) was spent settled paid = settled_all _ _ _ _ _ _ _ spent.grown _ (λ p i. below_among fault _ p (rw paid.filled.left_is at i)) was settled
settled_if w left (Err e) was spent settled paid = tt

-- ---- what an evaluation reads first is met in every entry, and a site may be filled behind it: where what is read stands

pub key_site : (f : ℕ → ℕ) (x : Source) (k : ℕ) → place_of f x ≡ ValuePlace.Key k → (t : ℕ) × IsSiteOf t x × (k ≡ f t)
key_site f (Source.Site s) k e = (s, refl, cc e)
key_site f x k e = cc e

pub element_site : (f : ℕ → ℕ) (x : Source) (k i n : ℕ) → place_of f x ≡ ValuePlace.Element k i n → (t : ℕ) × IsSiteOf t x × (k ≡ f t)
element_site f (Source.Element s a b) k i n e = (s, refl, cc e)
element_site f x k i n e = cc e

-- ---- what is read first is met

bind_needs : {M A B : Type 0} (o : Outcome M A) (f : A → Outcome M B) → is_need o ≡ true → is_need (o >>= f) ≡ true
bind_needs o f h = grind arith

operation_needs : {M : Type 0} (o : BinOp) (l r : Outcome M Value) → is_need l ≡ true → is_need (operation o l r) ≡ true
operation_needs o l r h = grind arith

module _ {M F : Type 0} (look : ℕ → Outcome M Value) (call : F → List Value → Outcome M Value) (c : ℕ) (missing : is_need (look c) ≡ true) where
  mutual
    first_needs : (e : Tree ℕ F) → first_read e ≡ Some c → is_need (evaluate look call e) ≡ true
    first_needs (Lit z) h = cc h
    first_needs (Truth b) h = cc h
    first_needs (Col d) h = let same : d ≡ c = cc h in ap (λ n. is_need (look n)) same ∙ missing
    first_needs (Neg a) h = bind_needs (evaluate look call a) _ (first_needs a h)
    first_needs (Not a) h = bind_needs (evaluate look call a) _ (first_needs a h)
    first_needs (Bin o (Lit z) b) h = grind (arith, first_needs b h)
    first_needs (Bin o a b) h = operation_needs o (evaluate look call a) (evaluate look call b) (first_needs a h)
    first_needs (Cond a d e) h = bind_needs (evaluate look call a) _ (first_needs a h)
    first_needs (Pick v i) h = bind_needs (evaluate look call v) _ (first_needs v h)
    first_needs (Call f args) h = bind_needs (evaluate_all look call args) _ (first_needs_in args h)

    first_needs_in : (es : Trees ℕ F) → first_read_in es ≡ Some c → is_need (evaluate_all look call es) ≡ true
    first_needs_in End h = cc h
    first_needs_in (More (Lit z) rest) h = bind_needs (evaluate_all look call rest) _ (first_needs_in rest h)
    first_needs_in (More (Truth z) rest) h = cc h
    first_needs_in (More a rest) h = bind_needs (evaluate look call a) _ (first_needs a h)

met_first : (j : JobView) (entry : ℕ) (u : Option ℕ) (s : ℕ) (x : SiteAt) (c : ℕ) → slice_get (graph_sites (job_graph j)) s ≡ Some x → first_read x.tree ≡ Some c → MeetsAt j entry u s c
met_first j entry u s x c at reads = (x, at, first_needs (without nat_eq c (version_in {M = ℕ} j entry u)) (call_outcome j.dataset.fns) c gone x.tree reads)
  where
    gone : is_need (without nat_eq c (version_in {M = ℕ} j entry u) c) ≡ true
    gone = ap (λ b. is_need {M = ℕ} (if b then Needs c else version_in {M = ℕ} j entry u c)) ((Decides-eqb c c).1 refl)

-- by a site's expression
pub met_by : {V : Type 0} {D : V → Type 0} {g : _} (w : Wanted V D g) {e : CheckedExpr} (c : ℕ) → IsSiteExpr (block_graph w.block.now) w.site e → Some c ≡ first_read e.tree → (entry : ℕ)
    → MeetsAt (block_job w.block.now) entry w.block.now.at.now.under w.site c
met_by w c its reads entry =
    let x = site_tree its in
    met_first (block_job w.block.now) entry w.block.now.at.now.under w.site x.0 c x.1 (ap first_read x.2 ∙ sym reads)

-- the version is there
pub met_there : {V : Type 0} {D : V → Type 0} {g : _} (w : Wanted V D g) (c entry : ℕ) → MeetsAt (block_job w.block.now) entry w.block.now.at.now.under w.site c → c < length (graph_versions (block_graph w.block.now))
met_there w c entry met =
    let j = block_job w.block.now in
    let job = w.block.now.fits.job in
    let u = w.block.now.at.now.under in
    subst (λ (n : ℕ). c < n) (sym (versions_count j.dataset.columns (fn_names j.dataset.fns) (history j.script)))
    (met_each j job entry u w.site c (λ d. (d < version_count j.dataset.columns (history j.script)) × IsBelow (length j.dataset.columns) w.site (source_at j u d)) met
    (columns_below j.dataset.fns j.dataset.columns (graph_under (job_graph j) u) (history j.script) (accepted_of j job) w.site met.0 met.1)).0

-- ---- a site that is held at each selected place needs no filling

pub held_filled : {V : Type 0} {D : V → Type 0} {g : _} (w : Wanted V D g) {sel : List ℕ} {lanes : List LaneView} → AreReadyOver w.block.now lanes → IsSelected w.block.now.count sel []
    → EachPlace sel (λ p. holds_at lanes (own_key w) p ≡ true) → IsFilledFor w sel sel lanes None
held_filled w {sel = sel} {lanes = lanes} ready selected holds = record {
  fault = sym (no_fault_over sel _ (λ p i. held_no_fault (block_job w.block.now) w.block.now.at.now.entry w.block.now.at.now.under w.block.now.count w.site w.there lanes ready p (selected.inside p i) (holds p i)));
  left_is = refl;
  held = holds;
  ready = ready;
}

-- more places may be named
wider : (j : JobView) (first : ℕ) (u : Option ℕ) (s : ℕ) (group sel : List ℕ) (a b : List LaneView) → EachPlace group (λ p. is_in p sel ≡ true) → IsGrownOver j first u s group a b → IsGrownOver j first u s sel a b
wider j first u s group sel a b sub h = record { kinds = h.kinds; rooms = h.rooms; stays = h.stays; grows = h.grows; only = only }
  where
    only : IsOnlyCalled j first u s sel a b
    only D each k p = elim (h.only D (λ q i. each q (sub q i)) k p) [ inl x ↦ inl x | inr x ↦ inr (sub p x.0, x.1) ]

lower_filter : (xs : List ℕ) (m n : ℕ) → m ≤ n → filter (λ q. nat_lt q m) (filter (λ q. nat_lt q n) xs) ≡ filter (λ q. nat_lt q m) xs
lower_filter [] m n le = refl
lower_filter (x ∷ xs) m n le = grind (arith, ltb-true, lt-ltb, lower_filter xs m n le)

-- ---- the site that is filled before

module _ {V : Type 0} {D : V → Type 0} {g : _} (w : Wanted V D g) (t : ℕ) (lead : IsLeadFor w t) where
  open parts_of w use {j, job, first, u, count, s}

  -- it is a lower one
  pub lead_lower : t < s
  lead_lower =
      let met = lead.met 0 in
      ranked (λ n. n) s t (source_at j u lead.version) lead.source (met_each j job 0 u s lead.version (λ d. IsRankedBelow (λ n. n) s (source_at j u d)) met (falls_by_number j job u s met.0 met.1))

  pub lead_key : key_over w.block.now t < key_count (job_graph j)
  lead_key = let low = lead_lower in key_small (job_graph j) t u (omega (arith, low, w.there))

  -- it can be filled where the site can
  pub can_lead : {kinds : List ColType} {scratch levels : ℕ} → CanFillFor w kinds scratch levels → CanFill j first u count kinds w.block.now.cells.now scratch levels t
  can_lead {levels = levels} can = can_below j job lead.version t 0 levels can (lead.met (first + 0)) lead.source (omega arith)

  pub lead_used : (used : ℕ → Bool) → ArePlain j used → used s ≡ true → used t ≡ true
  lead_used used plain has = met_used j job 0 u s lead.version t used plain has (lead.met 0) lead.source

  module _ {sel : List ℕ} {before mid : List LaneView} {start between : ℕ} (spent : IsSpentOver j first u t sel before mid start between) where
    -- the lead was filled, or memory was wanted for it
    pub led_begun : IsSpentFor w sel before mid start between
    led_begun = record {
      grown = grown_below j first u s sel before mid sel t lead_lower (λ p i. i) (λ p i. (lead.version, lead.met (first + p), lead.source)) spent.grown;
      cost = spent.cost;
    }

    module _ {left : List ℕ} {under : Option PlaceFault} (filled : IsFilledTo j first u count t sel left mid under) where
      left_among : EachPlace left (λ p. is_in p sel ≡ true)
      left_among p i = below_among under sel p (rw filled.left_is at i)

      pub led_selected : IsSelected count sel [] → IsSelected count left []
      led_selected selected = below_selected under selected filled.left_is

      module _ {after : List LaneView} {end : ℕ} (spent' : IsSpentFor w left mid after between end) where
        pub led_spent : IsSpentFor w sel before after start end
        led_spent = record {
          grown = grown_on j first u s sel before mid after led_begun.grown (wider j first u s left sel mid after left_among spent'.grown);
          cost = omega (arith, spent.cost, spent'.cost);
        }

        module _ (rising : AreRising sel) (selected : IsSelected count sel []) {last : List ℕ} {found : Option PlaceFault} (filled' : IsFilledFor w left last after found) where
          found_left : IsFaultOf (site_fault j first u s) left found
          found_left = rw filled'.fault (over_first left (site_fault j first u s))

          under_is : IsFaultOf (site_fault j first u s) sel under
          under_is = fault_met j job first u s t sel (λ p i. (lead.version, lead.met (first + p), lead.source)) under (rw filled.fault (over_first sel (site_fault j first u t)))

          left_low : EachPlace left (λ q. is_below under q ≡ true)
          left_low p i = below_low under sel p (rw filled.left_is at i)

          in_last : (p : ℕ) → is_in p sel ≡ true → is_below (found_or found under) p ≡ true → is_in p last ≡ true
          in_last p i low = grind (arith, below_in, below_both, left_low, found_left, below_found)

          lefts : (o : Option PlaceFault) → IsFaultOf (site_fault j first u s) left o → below_fault o left ≡ below_fault (found_or o under) sel
          lefts None h = filled.left_is
          lefts (Some x) h = ap (filter (λ q. nat_lt q x.place)) filled.left_is ∙ go under (left_low x.place h.0)
            where
              go : (o : Option PlaceFault) → is_below o x.place ≡ true → filter (λ q. nat_lt q x.place) (below_fault o sel) ≡ filter (λ q. nat_lt q x.place) sel
              go None e = refl
              go (Some y) e = let l = ltb-true x.place y.place e in lower_filter sel x.place y.place (omega (arith, l))

          pub led_filled : IsFilledFor w sel last after (found_or found under)
          led_filled = record {
            fault =
                fault_first (found_or found under) sel (site_fault j first u s) rising (fault_or (site_fault j first u s) sel found under (fault_lift (site_fault j first u s) left sel found left_among found_left) under_is)
                (λ p i low. held_no_fault j first u count s w.there after filled'.ready p (selected.inside p i) (filled'.held p (in_last p i low)));
            left_is = filled'.left_is ∙ lefts found found_left;
            held = filled'.held;
            ready = filled'.ready;
          }
