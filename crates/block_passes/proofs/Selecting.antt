-- A step's selection from that of the step above it, and what stands after all passes.
use Rattle.expr_lanes.proofs.Composed.{filter_all}
use Rattle.lemmas.proofs.{◌≡◌, ◌⊎◌, inl, inr, ℕ, ◌+◌, ◌≤◌, Bool, true, ◌&&◌, List, length, Option, None, Some, refl, sym, ◌∙◌, ap, subst, arith, zero, suc, ◌<◌, [], ◌∷◌, slice_get, get_or, ◌++◌, filter, slice_set, nat_lt, ◌-◌, slice_range, ℤ, false, if◌then◌else◌, nat_eq, below_more, All-from_recursion, get_or_from_slice_get, kept_at, range_with_len, set-get_or, set_at, set_length, slice_get-get_or, slice_get_read, slice_get_within, AllByRecursion, list_any, range_length, any_passes_from_place, Decides-eqb, recursion_from_All, set-append_right, same_Some}
use Rattle.expr_check.proofs.WellTyped.{each_weaker}
use Rattle.rdf_model.specs.{fault_in, is_true, Outcome, first_fault_from}
use Rattle.graph_numbers.specs.{through_sites, FilterAt, graph_filters, graph_results, booking_numbers, IfPassed, Pass as NumberedPass, ResultAt, through_filter}
use Rattle.expr_lanes.specs.{AreRising, EachPlace, is_in, IsSelected}
use Rattle.block_cache.specs.{fault_over, IsPassedOver, IsSpentOver, LaneView, PlaceFault, below_fault}
use Rattle.loop_keys.specs.{HasAllDemands, IsJob, JobView, site_in, truth_in, is_covering, IsCovered, IsReportPass, job_graph, numbered_passes, outcome_of, pass_fault, passes_in, source_at, ArePlainVersions, covered_in, covers_of, IsPlainLoop, version_in, IsSourceIn}
use Rattle.loop_keys.proofs.ActionLaws.{row_there, can_act}
use Rattle.block_passes.specs.{AreAtHand, AreKept, AreRemade, AreSteps, Chain, chosen, Demands, Found, IsFilteredTo, IsFilterStep, IsMade, IsMadeAt, IsNamedMade, IsNarrowed, IsNextSelected, IsPassMade, IsPassTried, IsPlan, IsPlanOfTurn, IsReadBelow, IsReadyBelow, IsReadyInTurn, IsSearched, IsSearchedTo, IsSelectedInTurn, IsSelectedTo, IsSettledAt, KeptPlaces, longer, Lowers, NamedSteps, noted, PlanView, Spends, Step, through_chain, turn_job, where_passed, CanGather, CanServe, DemandsInputs, filter_fault, filters_fault, inputs_fault, IsActionOf, IsLast, IsNamed, IsReadOf, IsServedTo, IsTriedTo, unfed, chain_at, IsOverAll, IsSelected as IsSelectedBelow, where_in}
use Rattle.block_passes.proofs.Demanding.{all_get, step_demanded, action_at, pass_set}
use Rattle.block_passes.proofs.PlanSteps.{chosen_below, in_chosen, filter_twice, narrowed, step_fault, step_true, truth_fault, chain_through, both_lower, lowers_as, or_else, none_lowers, row_in_block, searched, pass_searched, action_fault, where_split, last_through, report_fault, covered_is, one_result, last_inside}
use Rattle.block_passes.proofs.Serving.{spends_filled, filled_over, all_still}
use Rattle.loop_keys.proofs.PassNumbers.{contained_at, of_report, pass_answer, pass_of, filter_there, report_fault as its_fault, plan_covered}
use Rattle.expr_lanes.specs.declared.TheConstants.{MAX_PLACES}
use Rattle.block_passes.specs.declared.turn.Turn.{Turn}
use Rattle.block_passes.specs.declared.turn.Work.{Work}
use Rattle.rdf_values.specs.{EntryFault, ActionKind, ColType}

-- one part after another
pub tried_then : {j : JobView} {first count : ℕ} {chains : List Chain} {a b : ℕ → Option EntryFault} {pass : ℕ} {mid lanes : List LaneView} {was between kept : List KeptPlaces} {f0 f1 f2 : Found} {A B M : Type 0} (part : ℕ → Option EntryFault)
    → IsTriedTo j first count chains a pass mid was between f0 f1 A → IsTriedTo j first count chains b pass lanes between kept f1 f2 B → ((p : ℕ) → or_else (a p) (b p) ≡ part p) → M → IsTriedTo j first count chains part pass lanes was kept f0 f2 M
tried_then {first = first} {a = a} {b = b} {pass = pass} {f0 = f0} {f1 = f1} {f2 = f2} part h k both made = record {
  ready = k.ready;
  lowers = lowers_as (λ p. or_else (a p) (b p)) part first pass f0 f2 (λ p lt. both p) (both_lower a b first pass f0 f1 f2 h.lowers k.lowers);
  remade = λ i m. k.remade i (h.remade i m);
  made = made;
}

module _ (j : JobView) (first : ℕ) (up : Chain) (site : ℕ) (u : Option ℕ) (alike : (up.sites ≡ []) ⊎ (up.under ≡ u)) where
  -- the filters above come to the same under the step's own variation
  pub up_alike : (p : ℕ) → through_chain j (first + p) up ≡ through_sites (site_in j (first + p) u) up.sites
  up_alike p = chain_through j up u alike (first + p)

  pub own_fault : (p : ℕ) → or_else (fault_in (through_chain j (first + p) up)) (where_passed (through_chain j (first + p) up) (fault_in (truth_in j (first + p) u site))) ≡ fault_in (through_chain j (first + p) (longer up site u))
  own_fault p = grind (arith, or_else, up_alike, truth_fault, step_fault)

  pub own_true : (p : ℕ) → (is_true (through_chain j (first + p) up) && is_true (truth_in j (first + p) u site)) ≡ is_true (through_chain j (first + p) (longer up site u))
  own_true p = ap (λ (o : Outcome ⊥ Bool). is_true o && is_true (truth_in j (first + p) u site)) (up_alike p) ∙ sym (step_true (site_in j (first + p) u) up.sites site)

-- ---- the selections

module _ (j : JobView) (first : ℕ) (c : Chain) (limit made : ℕ) where
  -- a selection that is there, narrowed
  pub narrowed_made : (old new : KeptPlaces) → old.limit ≡ Some made → IsMade j first c limit made old.places → IsNarrowed limit made old new → (new.limit ≡ Some limit) × IsMade j first c limit limit new.places
  narrowed_made old new l h k = grind (arith, narrowed)

-- all places are selected
whole_made : (j : JobView) (first limit : ℕ) (c : Chain) (places : List ℕ) → c ≡ record { sites = []; under = None } → places ≡ range_with_len 0 limit → IsMade j first c limit limit places
whole_made j first limit c places e is = grind (arith, filter_all)

-- where the limit falls, those made before are as right
pub kept_lower : (j : JobView) (first : ℕ) (chains : List Chain) (limit lower : ℕ) (kept : List KeptPlaces) → lower ≤ limit → AreKept j first chains limit kept → AreKept j first chains lower kept
kept_lower j first chains limit lower kept le h = record {
  many = h.many;
  each = λ k made s r l. (
      let m = h.each k made s r l in
      let u = m.under in
      record { under = omega (arith, u, le); is = m.is; clear = λ p lt. m.clear p (omega (arith, lt, le)) });
}

-- ---- a selection that is written

pub set_other : {A : Type 0} (xs : List A) (k : ℕ) (y : A) (i : ℕ) (x : A) → slice_get (slice_set xs k y) i ≡ Some x → (slice_get xs i ≡ Some x) ⊎ ((i ≡ k) × (x ≡ y))
set_other (z ∷ xs) zero y zero x h = inr (refl, cc h)
set_other (z ∷ xs) (suc k) y (suc i) x h = elim (set_other xs k y i x h) [ inl q ↦ inl q | inr q ↦ inr (ap (λ n. suc n) q.0, q.1) ]
set_other xs k y i x h = inl h

module _ (j : JobView) (first count : ℕ) (chains : List Chain) (pass k : ℕ) (lanes : List LaneView) (kept now : List KeptPlaces) (s : Found)
    (ready : IsReadyBelow j first count chains s.limit lanes kept) (inside : k < length kept) (x : KeptPlaces) (limit : x.limit ≡ Some s.limit) (made : IsMade j first (chain_at chains k) s.limit s.limit x.places) (written : now ≡ slice_set kept k x) where
  at_now : (i : ℕ) (y : KeptPlaces) → slice_get now i ≡ Some y → (slice_get kept i ≡ Some y) ⊎ ((i ≡ k) × (y ≡ x))
  at_now i y q = set_other kept k x i y (ap (λ ks. slice_get ks i) (sym written) ∙ q)

  -- right where it was written, and nothing is lowered
  pub written_selected : IsSelectedTo j first count chains pass k lanes kept now s s
  written_selected = record {
    ready = record {
      ready = ready.ready;
      settled = ready.settled;
      kept_are = record { many = ap length written ∙ set_length kept k x ∙ ready.kept_are.many; each = λ i m y r l. one i m y l (at_now i y r) };
      within = ready.within;
    };
    lowers = none_lowers (λ p. fault_in (through_chain j (first + p) (chain_at chains k))) first pass s made.clear;
    remade = λ i m y q. elim (at_now i y q) [ inl r ↦ m y r | inr r ↦ (s.limit, ap (λ (z : KeptPlaces). z.limit) r.1 ∙ limit, ready.within) ];
    made = λ y q. (let e : x ≡ y = same_Some x y (sym (set_at kept k x inside) ∙ ap (λ ks. slice_get ks k) (sym written) ∙ q) in ap (λ (z : KeptPlaces). z.limit) (sym e) ∙ limit);
  }
    where
      one : (i m : ℕ) (y : KeptPlaces) → y.limit ≡ Some m → (slice_get kept i ≡ Some y) ⊎ ((i ≡ k) × (y ≡ x)) → IsMade j first (chain_at chains i) s.limit m y.places
      one i m y l (inl r) = ready.kept_are.each i m y r l
      one i m y l (inr r) =
          let same : s.limit ≡ m = same_Some s.limit m (sym limit ∙ ap (λ (z : KeptPlaces). z.limit) (sym r.1) ∙ l) in
          subst (λ (n : ℕ). IsMade j first (chain_at chains n) s.limit m y.places) (sym r.0)
          (subst (λ (n : ℕ). IsMade j first (chain_at chains k) s.limit n y.places) same (subst (λ (z : KeptPlaces). IsMade j first (chain_at chains k) s.limit s.limit z.places) (sym r.1) made))

-- the chains of a step with one more filter and of the step above it
module _ (chains : List Chain) (k parent site : ℕ) (u : Option ℕ) (step : IsFilterStep chains k parent site u) where
  pub up_is : chain_at chains parent ≡ step.up
  up_is = get_or_from_slice_get chains parent step.up _ step.its_up

  pub own_is : longer (chain_at chains parent) site u ≡ chain_at chains k
  own_is = ap (λ (c : Chain). longer c site u) up_is ∙ sym (get_or_from_slice_get chains k (longer step.up site u) (record { sites = []; under = None }) step.own)

  pub up_under : ((chain_at chains parent).sites ≡ []) ⊎ ((chain_at chains parent).under ≡ u)
  up_under = subst (λ (c : Chain). (c.sites ≡ []) ⊎ (c.under ≡ u)) (sym up_is) step.alike

-- one more filter
pub filter_selected : (j : JobView) (first count : ℕ) (chains : List Chain) (pass k parent site : ℕ) (u : Option ℕ) → IsFilterStep chains k parent site u → (mid after : List LaneView) (was between split now : List KeptPlaces) (a b c : Found) → split ≡ between
    → IsSelectedTo j first count chains pass parent mid was between a b → IsNextSelected j first count chains pass k parent site u after split now b c → IsSelectedTo j first count chains pass k after was now a c
filter_selected j first count chains pass k parent site u step mid after was between split now a b c same h n =
    tried_then (λ p. fault_in (through_chain j (first + p) (chain_at chains k))) h (subst (λ (ks : List KeptPlaces). IsNextSelected j first count chains pass k parent site u after ks now b c) same n)
    (λ p. own_fault j first (chain_at chains parent) site u (up_under chains k parent site u step) p ∙ ap (λ (d : Chain). fault_in (through_chain j (first + p) d)) (own_is chains k parent site u step)) n.made

-- whether it was there
pub kept_inside : (j : JobView) (first limit : ℕ) (chains : List Chain) (steps : List Step) (kept : List KeptPlaces) (k : ℕ) → AreSteps chains steps → AreKept j first chains limit kept → k < length steps → k < length kept
kept_inside j first limit chains steps kept k are h lt = let a = are.many in let b = h.many in omega (arith, a, b, lt)

-- ---- One more filter of a step, over the selections of all steps.

module _ (j : JobView) (job : IsJob j) (first count pass : ℕ) (plan : PlanView) (p : IsPlan j plan) (k parent site : ℕ) (u : Option ℕ) (its : slice_get plan.steps k ≡ Some (Step.Filter parent site u))
    (within : first + count ≤ length j.dataset.rows) (above own : List KeptPlaces) (many : length above ≡ k) (before : List LaneView) (f1 : Found) (ready : IsReadyBelow j first count p.chains f1.limit before (above ++ own))
    (limits : IsOverAll f1.limit (above ++ own) parent) (from : KeptPlaces) (read : from ≡ get_or above parent from) where
  abbrev s : IsFilterStep p.chains k parent site u
  s = p.steps.each k (Step.Filter parent site u) its

  abbrev up : Chain
  up = chain_at p.chains parent

  -- the selection of the parent
  parent_made : IsMade j first up f1.limit f1.limit from.places
  parent_made =
      let here : slice_get (above ++ own) parent ≡ Some from = kept_at above own parent from (slice_get_read above (length above) parent from refl (let b = s.before in omega (arith, b, many)) read) in
      ready.kept_are.each parent f1.limit from here (limits from here)

  pub from_inside : EachPlace from.places (λ q. q < f1.limit)
  from_inside q i = chosen_below (λ n. is_true (through_chain j (first + n) up)) q f1.limit (sym (ap (is_in q) parent_made.is) ∙ i)

  passed_in : (q : ℕ) → q < f1.limit → is_in q from.places ≡ is_true (through_chain j (first + q) up)
  passed_in q lt = ap (is_in q) parent_made.is ∙ in_chosen (λ n. is_true (through_chain j (first + n) up)) q f1.limit lt

  -- what is filled for it, the loop demands
  pub next_spends : (after : List LaneView) (start end : ℕ) → IsSpentOver j first u site from.places before after start end → Spends j first count before after start end
  next_spends after start end spent =
      spends_filled j first count u site from.places before after start end spent (λ q i. (let l = from_inside q i in let le = ready.within in omega (arith, l, le))) demanded
    where
      demanded : (q : ℕ) (T : ℕ → Bool) → is_in q from.places ≡ true → HasAllDemands j (first + q) T → Demands j (first + q) u T site
      demanded q T i all =
          let l = from_inside q i in
          let le = ready.within in
          let row = row_there j.dataset.rows (first + q) (omega (arith, l, le, within)) in
          let passed = ap (λ (c : Chain). is_true (through_chain j (first + q) c)) (sym (up_is p.chains k parent site u s)) ∙ sym (passed_in q l) ∙ i in
          step_demanded j job (first + q) row.0 row.1 T all (longer s.up site u) (p.tried k (longer s.up site u) s.own) s.up.sites site refl (ap is_true (sym (up_alike j first s.up site u s.alike q)) ∙ passed)

  module _ (to : KeptPlaces) (now : List KeptPlaces) (after : List LaneView) (f2 : Found) (written : now ≡ slice_set own 0 to) (h : IsFilteredTo j first count u site pass from.places to after f1 f2) where
    part : Lowers (λ q. where_passed (through_chain j (first + q) up) (fault_in (truth_in j (first + q) u site))) first pass f1 f2
    part = lowers_as (where_in (λ q. fault_in (truth_in j (first + q) u site)) from.places) (λ q. where_passed (through_chain j (first + q) up) (fault_in (truth_in j (first + q) u site))) first pass f1 f2
        (λ q lt. ap (λ b. if b then fault_in (truth_in j (first + q) u site) else None) (passed_in q lt)) h.served.lowers

    own_made : IsMade j first (longer up site u) f2.limit f2.limit to.places
    own_made = record {
      under = omega arith;
      is =
          h.left
          ∙ ap (filter (λ q. is_true (truth_in j (first + q) u site))) (h.served.left ∙ ap (filter (λ q. nat_lt q f2.limit)) parent_made.is ∙ narrowed (λ q. is_true (through_chain j (first + q) up)) f2.limit f1.limit part.falls)
          ∙ filter_twice (λ q. is_true (through_chain j (first + q) up)) (λ q. is_true (truth_in j (first + q) u site)) (range_with_len 0 f2.limit)
          ∙ (λ i. filter (λ q. own_true j first up site u (up_under p.chains k parent site u s) q i) (range_with_len 0 f2.limit));
      clear = λ q lt. sym (own_fault j first up site u (up_under p.chains k parent site u s) q) ∙ (λ i. or_else (parent_made.clear q (let l = part.falls in omega (arith, lt, l)) i) (part.clear q lt i));
    }

    own_selected : IsSelectedTo j first count p.chains pass k after (above ++ own) (above ++ now) f2 f2
    own_selected =
        let falls = part.falls in
        let z : 0 ≡ k - k = omega arith in
        written_selected j first count p.chains pass k after (above ++ own) (above ++ now) f2
        (record { ready = h.served.ready; settled = h.served.settled; kept_are = kept_lower j first p.chains f1.limit f2.limit (above ++ own) falls ready.kept_are; within = (let w = ready.within in omega (arith, falls, w)) })
        (let l = slice_get_within p.chains k (longer s.up site u) s.own in let m = ready.kept_are.many in omega (arith, l, m))
        to h.its_limit (subst (λ (c : Chain). IsMade j first c f2.limit f2.limit to.places) (own_is p.chains k parent site u s) own_made)
        (ap (λ ks. above ++ ks) written ∙ ap (λ n. above ++ slice_set own n to) z ∙ sym (set-append_right above own k k to many (omega arith)))

    pub next_selected : IsNextSelected j first count p.chains pass k parent site u after (above ++ own) (above ++ now) f1 f2
    next_selected = record { ready = own_selected.ready; lowers = part; remade = own_selected.remade; made = own_selected.made }

-- ---- How selections are made.

-- a selection of places of a block
pub selected : (count : ℕ) (sel : List ℕ) (limit n : ℕ) → count ≤ MAX_PLACES → limit ≤ count → EachPlace sel (λ p. p < limit) → n ≡ length sel → n ≤ MAX_PLACES → IsSelected count sel []
selected count sel limit n small le h many few = grind arith

module _ (j : JobView) (first count : ℕ) (u : Option ℕ) (s pass : ℕ) (sel left : List ℕ) (before after : List LaneView) (start end : ℕ) (old new : Found) (fault : Option PlaceFault)
    (spent : IsSpentOver j first u s sel before after start end) (passed : IsPassedOver j first u count s sel left after fault)
    (rising : AreRising sel) (inside : EachPlace sel (λ p. p < old.limit)) (known : (p : ℕ) → p < old.limit → IsSettledAt before p) (now : new ≡ noted first pass old fault) where
  pub filtered_to : (to : KeptPlaces) → to.limit ≡ Some new.limit → to.places ≡ left → IsFilteredTo j first count u s pass sel to after old new
  filtered_to to l is = record {
    tried = record { limit = Some new.limit; places = below_fault fault sel };
    served =
        filled_over (λ q. fault_in (truth_in j (first + q) u s)) j first count u s pass sel before after start end old new fault spent
        (passed.fault ∙ (λ i. fault_over (λ p. sym (truth_fault (site_in j (first + p) u s)) i) sel)) passed.settled rising inside known now passed.ready _ refl refl;
    its_limit = l;
    left = is ∙ passed.left_is;
  }

pub named_stays : (count : ℕ) (plan : PlanView) (a b : List KeptPlaces) (f : ℕ) → AreRemade count a b → IsNamedMade count plan a f → IsNamedMade count plan b f
named_stays count plan a b f h made s its = let w = made s its in (h s.above w.0, h s.own w.1)

-- ---- The selection of a step, as `narrow` leaves it, where the search is at a limit.

module _ {V : Type 0} {D : V → Type 0} {g : _} (t : Turn V D g) (p : IsPlanOfTurn t) (w : Work) (kept : List KeptPlaces) (k : ℕ) (inside : k < length t.plan.now.steps) (ready : IsReadyInTurn t p.chains w.found.limit w.lanes.items kept) (d : KeptPlaces) where
  low : k < length kept
  low = kept_inside (turn_job t) t.first w.found.limit p.chains t.plan.now.steps kept k p.steps ready.kept_are inside

  -- one that was there
  pub narrowed_selected : (new : KeptPlaces) (made : ℕ) → (get_or kept k d).limit ≡ Some made → IsNarrowed w.found.limit made (get_or kept k d) new
      → IsSelectedInTurn t p.chains k w.lanes.items kept (slice_set kept k new) w.found w.found
  narrowed_selected new made limit narrowed =
      let m = narrowed_made (turn_job t) t.first (chain_at p.chains k) w.found.limit made (get_or kept k d) new limit (ready.kept_are.each k made (get_or kept k d) (slice_get-get_or kept k d low) limit) narrowed in
      written_selected (turn_job t) t.first t.count p.chains t.pass k w.lanes.items kept (slice_set kept k new) w.found ready low new m.0 m.1 refl

  -- one that was made below the limit
  pub made_again : (made : ℕ) → (get_or kept k d).limit ≡ Some made → made ≤ w.found.limit → IsSelectedInTurn t p.chains k w.lanes.items kept kept w.found w.found
  made_again made limit le =
      subst (λ (ks : List KeptPlaces). IsSelectedInTurn t p.chains k w.lanes.items kept ks w.found w.found) (set-get_or kept k d) (narrowed_selected (get_or kept k d) made limit (inl (le, refl)))

  module _ (new : KeptPlaces) (same : new ≡ get_or kept k d) where
    -- where none was, all is as before
    pub none_there : slice_set kept k new ≡ kept
    none_there = ap (slice_set kept k) same ∙ set-get_or kept k d

    -- and all places are selected
    pub block_selected : slice_get t.plan.now.steps k ≡ Some Step.Block → (all : KeptPlaces) → all.limit ≡ Some w.found.limit → all.places ≡ range_with_len 0 w.found.limit
        → IsSelectedInTurn t p.chains k w.lanes.items kept (slice_set (slice_set kept k new) k all) w.found w.found
    block_selected block all limit places =
        written_selected (turn_job t) t.first t.count p.chains t.pass k w.lanes.items kept (slice_set (slice_set kept k new) k all) w.found ready low
        all limit (whole_made (turn_job t) t.first w.found.limit (chain_at p.chains k) all.places (get_or_from_slice_get p.chains k _ _ (p.steps.each k Step.Block block)) places) (ap (λ (ks : List KeptPlaces). slice_set ks k all) none_there)

-- what a pass takes stays so
pub pass_stays : (j : JobView) (count : ℕ) (plan : PlanView) (a b : List KeptPlaces) (n : ℕ) → AreRemade count a b → IsPassMade j count plan a n → IsPassMade j count plan b n
pass_stays j count plan a b n h made = record {
  action = λ k inputs u own last its. h last (made.action k inputs u own last its);
  report = λ own rep. each_weaker (IsNamedMade count plan a) (IsNamedMade count plan b) (λ f m. named_stays count plan a b f h m) rep.result.covers (made.report own rep);
}

-- after all passes the selections of each named filter that is covered were made
pub filters_made : (j : JobView) (job : IsJob j) (count : ℕ) (plan : PlanView) (p : IsPlan j plan) (kept : List KeptPlaces) → ((n : ℕ) → n < length (passes_in j) → IsPassMade j count plan kept n)
    → (f : ℕ) (x : FilterAt) → slice_get (graph_filters (job_graph j)) f ≡ Some x → IsNamedMade count plan kept f
filters_made j job count plan p kept made f x its s named =
    let c = plan_covered j job f (p.filters f (Some s) named x its).0 in
    let r = of_report j job f c in
    let rep : IsReportPass j c.pass c.numbered.result = record { numbered = c.numbered; its_pass = c.its_pass; its_result = refl; result = c.result; there_is = c.its_result; filters = r.filters; report = r.booking } in
    let at = contained_at c.result.covers f c.covers in
    all_get (IsNamedMade count plan kept) c.result.covers
    (All-from_recursion (IsNamedMade count plan kept) c.result.covers ((made c.pass (slice_get_within (passes_in j) c.pass _ (pass_of j c.pass c.numbered c.its_pass c.result c.its_result))).report c.numbered.result rep)) at.0 f at.1 s named

-- ---- One pass after another over a block.

module _ (j : JobView) (first count : ℕ) (before after : List LaneView) (start end : ℕ) (spends : Spends j first count before after start end) where
  abbrev fault : ℕ → ℕ → Option EntryFault
  fault q i = pass_fault j (first + q) i

  -- what was read stays so
  still_read : (limit lower n : ℕ) → lower ≤ limit → IsReadBelow j first before limit n → IsReadBelow j first after lower n
  still_read limit lower n le h m r k of p lt passed = all_still j first count before after start end spends m.variation p r.inputs (h m r k of p (omega (arith, lt, le)) passed)

  -- the next pass was tried
  pub next_searched : (plan : PlanView) (chains : List Chain) (n : ℕ) (kept now : List KeptPlaces) (s t : Found) → IsSearchedTo j first count plan chains n before kept s → IsPassTried j first count plan chains n after kept now s t
      → IsSearchedTo j first count plan chains (n + 1) after now t
  next_searched plan chains n kept now s t h k = record {
    ready = k.ready;
    searched = pass_searched fault first count n s t h.searched k.lowers;
    read = below_more (IsReadBelow j first after t.limit) n (λ m lt. still_read s.limit t.limit m k.lowers.falls (h.read m lt)) k.made.0;
    made = below_more (IsPassMade j count plan now) n (λ m lt. pass_stays j count plan kept now m k.remade (h.made m lt)) k.made.1;
  }

-- where all passes were tried, the best fault is the first one of the block's rows
pub first_searched : (j : JobView) (first count : ℕ) (s : Found) → first + count ≤ length j.dataset.rows → IsSearched (λ q n. pass_fault j (first + q) n) first count (length (passes_in j)) s
    → first_fault_from j.dataset first (slice_range j.dataset.rows first (first + count)) (passes_in j) ≡ s.best
first_searched j first count s within h =
    let long : length (slice_range j.dataset.rows first (first + count)) ≡ count = range_length j.dataset.rows first (first + count) (omega arith) within ∙ (let e : first + count - first ≡ count = omega arith in e) in
    searched j (passes_in j) (slice_range j.dataset.rows first (first + count)) first s (λ q n. pass_fault j (first + q) n)
    (subst (λ (n : ℕ). IsSearched (λ q i. pass_fault j (first + q) i) first n (length (passes_in j)) s) (sym long) h)
    (λ q n lt. ap (λ o. fault_in (outcome_of j o (slice_get (passes_in j) n))) (sym (row_in_block j.dataset.rows first (first + count) q (omega (arith, lt, long)))))

-- ---- an action's pass, tried part by part

if_passed : (o : Outcome ⊥ Bool) (X : Type 0) → is_true o ≡ true → IfPassed o X → X
if_passed o X h x = grind arith

-- what an action of a loop without vectors reads
pub read_plain : (j : JobView) (pass : ℕ) (k : ActionKind) (inputs : List ℕ) (u : Option ℕ) → IsReadOf j pass k inputs u → (loop : IsPlainLoop j) → ArePlainVersions j loop.used u inputs
read_plain j pass k inputs u own loop =
    subst (λ (cs : List ℕ). ArePlainVersions j loop.used u cs) own.inputs_are
    (recursion_from_All (λ c. IsSourceIn loop.used (source_at j u c)) own.result.inputs (λ i d lt. (loop.inputs pass own.numbered own.result own.action.its_pass own.action.its_result i d lt).1 u))

pub read_inside : (j : JobView) (n : ℕ) (k : ActionKind) (inputs : List ℕ) (u : Option ℕ) → IsReadOf j n k inputs u → n < length (passes_in j)
read_inside j n k inputs u own = slice_get_within (passes_in j) n _ (pass_of j n own.numbered own.action.its_pass own.result own.action.its_result)

-- the pass of a report is not an action's
pub no_action : (j : JobView) (pass own : ℕ) (rep : IsReportPass j pass own) (m : NumberedPass) (r : ResultAt) (k : ActionKind) → IsActionOf j pass m r k → ⊥
no_action j pass own rep m r k of = grind (arith, one_result)

last_none : (a b : Option EntryFault) → or_else a b ≡ None → b ≡ None
last_none a b h = grind arith

module _ (j : JobView) (job : IsJob j) (first count pass : ℕ) (plan : PlanView) (p : IsPlan j plan) (within : first + count ≤ length j.dataset.rows) (k : ActionKind) (inputs : List ℕ) (u : Option ℕ) (own : IsReadOf j pass k inputs u) where
  open own use {numbered as m, result as r}

  -- its lanes can be gathered
  pub gathers : 0 < count → (kinds : List ColType) (cells : List (List ℤ)) (scratch levels : ℕ) → AllByRecursion (CanServe j first u count kinds cells scratch levels) inputs → CanGather j first count kinds cells k inputs u
  gathers some kinds cells scratch levels can = record {
    scratch = scratch;
    levels = levels;
    can = can;
    many = (can_act j job first (omega (arith, some, within)) m.result k r.filters inputs (action_at own) u).count;
    fits = λ q vs lt e. (can_act j job (first + q) (omega (arith, lt, within)) m.result k r.filters inputs (action_at own) u).fits vs e;
  }

  -- its last step
  pub has_step : pass < length plan.passes
  has_step = let low = read_inside j pass k inputs u own in let many = p.many_passes in omega (arith, low, many)

  module _ (last : ℕ) (its : slice_get plan.passes pass ≡ Some last) where
    is_last : IsLast p.chains r.filters m.variation last
    is_last = p.passes pass last its m r k own.action

    pub last_there : last < length plan.steps
    last_there = last_inside is_last (sym p.steps.many)

    abbrev c : Chain
    c = chain_at p.chains last

    through_is : (e : ℕ) → through_chain j e c ≡ through_sites (site_in {M = ⊥} j e m.variation) r.filters
    through_is e = last_through j p.chains r.filters m.variation last is_last e

    abbrev passes_at : ℕ → Bool
    passes_at q = is_true (through_chain j (first + q) c)

    -- the fault of the pass: of its filters, of what it reads, and of feeding that
    whole_fault : (q : ℕ) → q < count → or_else (fault_in (through_chain j (first + q) c)) (or_else (where_passed (through_chain j (first + q) c) (inputs_fault j first u inputs q)) (where_passed (through_chain j (first + q) c) (unfed j first k inputs u q)))
        ≡ pass_fault j (first + q) pass
    whole_fault q lt =
        let row = row_there j.dataset.rows (first + q) (omega (arith, lt, within)) in
        let a = own.action in
        let iu = sym own.its_under in
        let ii = sym own.inputs_are in
        ap (or_else (fault_in (through_chain j (first + q) c))) (sym (where_split (through_chain j (first + q) c) (inputs_fault j first u inputs q) (unfed j first k inputs u q)))
        ∙ (λ i. or_else (fault_in (through_is (first + q) i)) (where_passed (through_is (first + q) i) (or_else (inputs_fault j first (iu i) (ii i) q) (unfed j first k (ii i) (iu i) q))))
        ∙ sym (action_fault (site_in j (first + q) m.variation) (version_in j (first + q) m.variation) k r)
        ∙ sym (ap (fault_in) (pass_answer j job (first + q) row.0 row.1 pass m a.its_pass r a.its_result
        ∙ ap (booking_numbers (site_in {M = ⊥} j (first + q) None) (site_in j (first + q) m.variation) (version_in j (first + q) m.variation) (graph_filters (job_graph j)) r) a.booking))

    -- what no pass faults at can be fed
    pub unfed_none : (q : ℕ) → q < count → is_true (through_sites (site_in {M = ⊥} j (first + q) m.variation) r.filters) ≡ true → pass_fault j (first + q) pass ≡ None → unfed j first k inputs u q ≡ None
    unfed_none q lt passed none = (λ i. if (sym passed ∙ sym (ap is_true (through_is (first + q)))) i then unfed j first k inputs u q else None) ∙ last_none _ _ (last_none _ _ (whole_fault q lt ∙ none))

    -- the places of its last step, where that was selected over all of the block
    pub placed : (kept : List KeptPlaces) → AreKept j first p.chains count kept → (s : KeptPlaces) → slice_get kept last ≡ Some s → s.limit ≡ Some count → (q : ℕ) → is_in q s.places ≡ true
        → (q < count) × (is_true (through_sites (site_in {M = ⊥} j (first + q) m.variation) r.filters) ≡ true)
    placed kept are s at over q i =
        let made = are.each last count s at over in
        let low = chosen_below passes_at q count (sym (ap (is_in q) made.is) ∙ i) in
        (low, sym (ap is_true (through_is (first + q))) ∙ sym (in_chosen passes_at q count low) ∙ sym (ap (is_in q) made.is) ∙ i)

    -- ---- its selection

    module _ (was kept : List KeptPlaces) (lanes1 : List LaneView) (f0 f1 : Found) (h : IsSelectedTo j first count p.chains pass last lanes1 was kept f0 f1) (d : KeptPlaces) where
      abbrev to : KeptPlaces
      to = get_or kept last d

      pub last_kept : last < length kept
      last_kept = last_inside is_last h.ready.kept_are.many

      to_stands : slice_get kept last ≡ Some to
      to_stands = slice_get-get_or kept last d last_kept

      made : IsMade j first c f1.limit f1.limit to.places
      made = h.ready.kept_are.each last f1.limit to to_stands (h.made to to_stands)

      pub to_selected : IsSelectedBelow f1.limit to
      to_selected = record { made = h.made to to_stands; inside = λ q i. chosen_below passes_at q f1.limit (sym (ap (is_in q) made.is) ∙ i) }

      pub to_demanded : (q : ℕ) (T : ℕ → Bool) → is_in q to.places ≡ true → HasAllDemands j (first + q) T → DemandsInputs j (first + q) u T inputs
      to_demanded q T i all =
          let lt = to_selected.inside q i in
          let le = h.ready.within in
          let passed : is_true (through_chain j (first + q) c) ≡ true = sym (in_chosen passes_at q f1.limit lt) ∙ sym (ap (is_in q) made.is) ∙ i in
          let row = row_there j.dataset.rows (first + q) (omega (arith, lt, le, within)) in
          let set = pass_set j job (first + q) row.0 row.1 T all pass m r k own.action in
          subst (λ (v : Option ℕ). DemandsInputs j (first + q) v T inputs) own.its_under
          (subst (λ (cs : List ℕ). DemandsInputs j (first + q) m.variation T cs) own.inputs_are
          (set.0, set.1, if_passed (through_sites (site_in {M = ⊥} j (first + q) m.variation) r.filters) _ (sym (ap is_true (through_is (first + q))) ∙ passed) set.2.1))

      -- ---- what it reads, and whether it can be fed that

      module _ (low : f0.limit ≤ count) (to2 to3 : KeptPlaces) (lanes2 : List LaneView) (f2 f3 : Found) (s : IsServedTo j first count (inputs_fault j first u inputs) pass to.places to2 lanes2 f1 f2)
          (held : EachPlace to2.places (AreAtHand j first lanes2 u inputs)) (t : IsServedTo j first count (unfed j first k inputs u) pass to2.places to3 lanes2 f2 f3) where
        is_second : to2.places ≡ chosen j first c f2.limit
        is_second = s.left ∙ ap (filter (λ q. nat_lt q f2.limit)) made.is ∙ narrowed passes_at f2.limit f1.limit s.lowers.falls

        read_part : Lowers (λ q. where_passed (through_chain j (first + q) c) (inputs_fault j first u inputs q)) first pass f1 f2
        read_part = grind (arith, lowers_as, made, in_chosen)

        fed_part : Lowers (λ q. where_passed (through_chain j (first + q) c) (unfed j first k inputs u q)) first pass f2 f3
        fed_part = grind (arith, lowers_as, is_second, in_chosen)

        all_lower : Lowers (λ q. pass_fault j (first + q) pass) first pass f0 f3
        all_lower =
            lowers_as _ (λ q. pass_fault j (first + q) pass) first pass f0 f3 (λ q lt. whole_fault q (omega (arith, lt, low)))
            (both_lower (λ q. fault_in (through_chain j (first + q) c)) (λ q. or_else (where_passed (through_chain j (first + q) c) (inputs_fault j first u inputs q)) (where_passed (through_chain j (first + q) c) (unfed j first k inputs u q))) first pass f0 f1 f3 h.lowers
            (both_lower (λ q. where_passed (through_chain j (first + q) c) (inputs_fault j first u inputs q)) (λ q. where_passed (through_chain j (first + q) c) (unfed j first k inputs u q)) first pass f1 f2 f3 read_part fed_part))

        lower : f3.limit ≤ f1.limit
        lower = let a = s.lowers.falls in let b = t.lowers.falls in omega (arith, a, b)

        third_made : IsMade j first c f3.limit f3.limit to3.places
        third_made = record {
          under = omega arith;
          is = t.left ∙ ap (filter (λ q. nat_lt q f3.limit)) is_second ∙ narrowed passes_at f3.limit f2.limit t.lowers.falls;
          clear = λ q lt. (let a = lower in made.clear q (omega (arith, lt, a)));
        }

        all_read : IsReadBelow j first lanes2 f3.limit pass
        all_read = grind (arith, one_result, is_second, in_chosen, through_is)

        pub action_tried : (now : List KeptPlaces) → now ≡ slice_set kept last to3 → IsPassTried j first count plan p.chains pass lanes2 was now f0 f3
        action_tried now e =
            let w = h.ready.within in
            let a = lower in
            let written =
            written_selected j first count p.chains pass last lanes2 kept now f3
            (record { ready = t.ready; settled = t.settled; kept_are = kept_lower j first p.chains f1.limit f3.limit kept lower h.ready.kept_are; within = omega (arith, a, w) })
            last_kept to3 t.its_limit third_made e in
            record {
              ready = written.ready;
              lowers = all_lower;
              remade = λ i n. written.remade i (h.remade i n);
              made = (
                all_read,
                record {
                  action = λ k2 inputs2 u2 own2 l at. subst (IsMadeAt count now) (same_Some last l (sym its ∙ at)) (λ x q. (f3.limit, written.made x q, written.ready.within));
                  report = λ own2 rep. absurd (no_action j pass own2 rep m r k own.action);
                },
              );
            }

-- Named filters, tried one after another
or_else_same : (a b : Option EntryFault) → or_else a (or_else a b) ≡ or_else a b
or_else_same a b = grind arith

-- ---- covered filters

module _ (j : JobView) (job : IsJob j) (f : ℕ) (covered : IsCovered j f) where
  covering : is_covering (graph_results (job_graph j)) f covered.numbered ≡ true
  covering =
      let at = contained_at covered.result.covers f covered.covers in
      ap (λ o. list_any (nat_eq f) (covers_of o)) covered.its_result ∙ any_passes_from_place (nat_eq f) covered.result.covers at.0 f at.1 ((Decides-eqb f f).1 refl)

  filter_stands : (x : FilterAt) × (slice_get (graph_filters (job_graph j)) f ≡ Some x)
  filter_stands = filter_there j job f covered

  is_covered : slice_get (covered_in j) f ≡ Some true
  is_covered =
      covered_is j job f (slice_get_within (graph_filters (job_graph j)) f filter_stands.0 filter_stands.1) true
      (sym (any_passes_from_place (is_covering (graph_results (job_graph j)) f) (numbered_passes j) covered.pass covered.numbered covered.its_pass covering))

  -- ---- its step

  module _ (plan : PlanView) (p : IsPlan j plan) where
    pub has_named : f < length plan.filters
    has_named = let low = slice_get_within (graph_filters (job_graph j)) f filter_stands.0 filter_stands.1 in let many = p.many_filters in omega (arith, low, many)

    pub never_none : slice_get plan.filters f ≡ Some None → ⊥
    never_none e = let bad : true ≡ false = same_Some true false (sym is_covered ∙ p.filters f None e filter_stands.0 filter_stands.1) in cc bad

    module _ (s : NamedSteps) (its : slice_get plan.filters f ≡ Some (Some s)) where
      named : IsNamed p.chains filter_stands.0 s
      named = (p.filters f (Some s) its filter_stands.0 filter_stands.1).1

      pub own_there : s.own < length plan.steps
      own_there = last_inside named.own (sym p.steps.many)

      pub above_there : s.above < length plan.steps
      above_there = last_inside named.above (sym p.steps.many)

      both_faults : (e : ℕ) → or_else (fault_in (through_chain j e (chain_at p.chains s.above))) (fault_in (through_chain j e (chain_at p.chains s.own))) ≡ fault_in (through_filter (site_in {M = ⊥} j e None) (slice_get (graph_filters (job_graph j)) f))
      both_faults e =
          let own = last_through j p.chains filter_stands.0.sites None s.own named.own e ∙ ap (through_sites (site_in {M = ⊥} j e None)) named.sites in
          (λ i. or_else (fault_in (last_through j p.chains named.up None s.above named.above e i)) (fault_in (own i)))
          ∙ ap (or_else (fault_in (through_sites (site_in {M = ⊥} j e None) named.up))) (step_fault (site_in j e None) named.up named.site)
          ∙ or_else_same (fault_in (through_sites (site_in {M = ⊥} j e None) named.up)) (where_passed (through_sites (site_in {M = ⊥} j e None) named.up) (fault_in (site_in {M = ⊥} j e None named.site)))
          ∙ sym (step_fault (site_in j e None) named.up named.site)
          ∙ ap (λ (l : List ℕ). fault_in (through_sites (site_in {M = ⊥} j e None) l)) (sym named.sites)
          ∙ ap (λ o. fault_in (through_filter (site_in {M = ⊥} j e None) o)) (sym filter_stands.1)

      pub filter_tried : (first count pass : ℕ) (mid lanes : List LaneView) (was between kept : List KeptPlaces) (a b c : Found)
          → IsSelectedTo j first count p.chains pass s.above mid was between a b → IsSelectedTo j first count p.chains pass s.own lanes between kept b c
          → IsTriedTo j first count p.chains (filter_fault j first f) pass lanes was kept a c (IsNamedMade count plan kept f)
      filter_tried first count pass mid lanes was between kept a b c h k =
          tried_then (filter_fault j first f) h k (λ q. both_faults (first + q))
          (λ other at. subst (λ (n : NamedSteps). IsMadeAt count kept n.above × IsMadeAt count kept n.own) (same_Some s other (same_Some (Some s) (Some other) (sym its ∙ at)))
          (k.remade s.above (λ x e. (b.limit, h.made x e, h.ready.within)), λ x e. (c.limit, k.made x e, k.ready.within)))

pub filters_tried : (j : JobView) (first count : ℕ) (plan : PlanView) (chains : List Chain) (pass : ℕ) (filters fs : List ℕ) (f : ℕ) → filters ≡ f ∷ fs → (lanes after : List LaneView) (was kept now : List KeptPlaces) (a b c : Found)
    → IsTriedTo j first count chains (filter_fault j first f) pass lanes was kept a b (IsNamedMade count plan kept f) → IsTriedTo j first count chains (filters_fault j first fs) pass after kept now b c (AllByRecursion (IsNamedMade count plan now) fs)
    → IsTriedTo j first count chains (filters_fault j first filters) pass after was now a c (AllByRecursion (IsNamedMade count plan now) filters)
filters_tried j first count plan chains pass filters fs f e lanes after was kept now a b c h k =
    subst (λ (l : List ℕ). IsTriedTo j first count chains (filters_fault j first l) pass after was now a c (AllByRecursion (IsNamedMade count plan now) l)) (sym e)
    (tried_then (filters_fault j first (f ∷ fs)) h k (λ p. sym (report_fault (site_in {M = ⊥} j (first + p) None) (graph_filters (job_graph j)) f fs)) (named_stays count plan kept now f k.remade h.made, k.made))

-- ---- a report

-- a pass is one report's
same_report : (j : JobView) (pass own other : ℕ) (rep : IsReportPass j pass own) (rep2 : IsReportPass j pass other) → rep.result ≡ rep2.result
same_report j pass own other rep rep2 = grind (arith, one_result)

-- its pass was tried
pub report_tried : (j : JobView) (job : IsJob j) (first count : ℕ) (plan : PlanView) (chains : List Chain) (pass own : ℕ) (rep : IsReportPass j pass own) (ns : List ℕ) → rep.result.covers ≡ ns → first + count ≤ length j.dataset.rows
    → (lanes : List LaneView) (was kept : List KeptPlaces) (a b : Found) → a.limit ≤ count → IsTriedTo j first count chains (filters_fault j first ns) pass lanes was kept a b (AllByRecursion (IsNamedMade count plan kept) ns)
    → IsPassTried j first count plan chains pass lanes was kept a b
report_tried j job first count plan chains pass own rep ns e within lanes was kept a b low t = record {
  ready = t.ready;
  lowers = lowers_as (filters_fault j first ns) (λ q. pass_fault j (first + q) pass) first pass a b
      (λ q lt. (let row = row_there j.dataset.rows (first + q) (omega (arith, lt, low, within)) in sym (its_fault j job (first + q) row.0 row.1 pass own rep ns e))) t.lowers;
  remade = t.remade;
  made = (
    λ m r k of q lt passed. absurd (no_action j pass own rep m r k of),
    record {
      action = λ k inputs u own2 last its. absurd (no_action j pass own rep own2.numbered own2.result k own2.action);
      report = λ other rep2. subst (λ (l : List ℕ). AllByRecursion (IsNamedMade count plan kept) l) (sym e ∙ ap (λ (x : ResultAt). x.covers) (same_report j pass own other rep rep2)) t.made;
    },
  );
}
