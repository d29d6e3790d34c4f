-- What filling sites spends, what the actions of a loop read, how filling it lowers the limit, and the lanes of what is read.
use Rattle.lemmas.proofs.{◌++◌, take, ◌≡◌, ◌⊎◌, inl, inr, ℕ, ◌+◌, ◌<◌, Bool, true, false, List, Option, refl, sym, ◌∙◌, ap, arith, [], ◌∷◌, length, map, option_map, Some, subst, slice_get, get_or, unwrap_or, ◌≤◌, ◌&&◌, None, nat_lt, if◌then◌else◌, ℤ, pos, filter, suc, drop, drop-cons, option_and_then, get_or_from_slice_get, and_false, and_true, Decides-ltb, ltb-true, slice_get-get_or, slice_get_read, something_at, take_all, take_next, All-from_recursion, slice_get_within, each_append}
use Rattle.block_cache.specs.{cells_at, IsSpentOver, LaneView, AreReady, AreSiteKinds, below_fault, fault_over, holds_at, is_held, IsSettled, kinds_of, lane_holds, PlaceFault, site_fault, value_of}
use Rattle.loop_keys.specs.{HasAllDemands, job_graph, job_of, JobView, key, key_count, ArePlain, IsSourceIn, row_of, site_in, source_at, Held, IsRight, version_in, key_under, ValuePlace, place_of, row_in}
use Rattle.expr_lanes.specs.{EachPlace, is_in, AreRising, at_place}
use Rattle.block_passes.specs.{AreAtHand, AreHeldInTurn, AreLanesOf, CanGatherInTurn, CanServeWith, Demands, DemandsInputs, DemandsSource, Found, HasHeld, IsAtHand, IsDemandedAt, IsKnown, IsLaneOf, IsOver, IsSelected, IsServable, IsServedInTurn, IsServedTo, IsSettledAt, IsSpentInTurn, IsWhole, KeepsRoom, KeptPlaces, Leaves, Lowers, noted, source_fault, source_in_turn, Spends, turn_job, where_in, inputs_fault}
use Rattle.block_passes.specs.declared.turn.ActionRead.{ActionRead}
use Rattle.block_passes.specs.declared.turn.Turn.{Turn}
use Rattle.block_passes.specs.declared.turn.Work.{Work}
use Rattle.block_cache.proofs.Attempts.{other_places, got_kind}
use Rattle.block_cache.proofs.OverLaws.{same_holds, holds_on, held_no_fault, held_of_lane, lane_held, right_value, held_true}
use Rattle.loop_keys.proofs.KeyLaws.{grows_on, key_small}
use Rattle.rdf_values.specs.{ActionKind, ColType, Column, columns_of, kind_at, Value, EntryFault}
use Rattle.expr_check.specs.{CheckedExpr, is_vector}
use Rattle.expr_check.proofs.Typed.{columns_scalar, plain_typed}
use Rattle.expr_check.proofs.WellTyped.{each_weaker}
use Rattle.rdf_model.specs.{◌>>=◌, fault_in, Faults, Gives, Needs, Outcome, tag_element, FitsFeed, for_all}
use Rattle.graph_numbers.specs.{cell_value, IsSiteExpr, Source, source_value, graph_sites, HasInputs, IfGiven}
use Rattle.graph_numbers.proofs.Placing.{by_test}
use Rattle.loop_keys.proofs.ActionLaws.{plain_expr, integer_fits, numeric_fits, pair_fits, single_fits, triple_fits, weighted_fits}
use Rattle.block_passes.proofs.PlanSteps.{left_below, over_lowers, selected_or_none, filter_twice, none_lowers, both_lower, lowers_as, or_else, last_fault}
use Rattle.block_cache.proofs.LaneSteps.{filter_passes}
use Rattle.expr_eval.specs.{ColumnInput, input_outcome}
use Rattle.expr_lanes.proofs.Composed.{filtered_in, in_filter, filter_all}
use Rattle.rdf_values.proofs.KeptLemmas.{cell_of_column, column_length}
use Rattle.actions.specs.{FedLane, lane_value, Sources, SuitsAt, truth_of}
use Rattle.actions.specs.declared.batch.Sources.TheVariants.{One, Weighted, Pair, WeightedPair}

-- ---- one after another

pub spends_none : (j : JobView) (first count : ℕ) (lanes : List LaneView) (n : ℕ) → Spends j first count lanes lanes n n
spends_none j first count lanes n = grind arith

pub spends_then : (j : JobView) (first count : ℕ) (a b c : List LaneView) (l m n : ℕ) → Spends j first count a b l m → Spends j first count b c m n → Spends j first count a c l n
spends_then j first count a b c l m n h k = record {
  kinds = k.kinds ∙ h.kinds;
  rooms = k.rooms ∙ h.rooms;
  grows = λ p. grows_on (cells_at (key_count (job_graph j)) a p) (cells_at (key_count (job_graph j)) b p) (cells_at (key_count (job_graph j)) c p) (h.grows p) (k.grows p);
  only = λ T all x p e. elim (k.only T all x p e) [ inl y ↦ h.only T all x p y | inr y ↦ inr y ];
  cost = (let x = h.cost in let y = k.cost in omega (arith, x, y));
}

-- ---- one site

module _ (j : JobView) (first count : ℕ) (u : Option ℕ) (s : ℕ) (sel : List ℕ) (before after : List LaneView) (start end : ℕ) (spent : IsSpentOver j first u s sel before after start end) where
  -- what was settled stays so at a place that wasn't selected
  pub settled_outside : (p : ℕ) → is_in p sel ≡ false → IsSettledAt before p → IsSettledAt after p
  settled_outside p out h k begun =
      let same = other_places j first u s sel before after spent.grown k p out in
      same_holds (key_count (job_graph j)) before after k p same ∙ h k (sym same.0 ∙ begun)

  pub spends_filled : EachPlace sel (λ p. p < count) → ((p : ℕ) (T : ℕ → Bool) → is_in p sel ≡ true → HasAllDemands j (first + p) T → Demands j (first + p) u T s) → Spends j first count before after start end
  spends_filled inside demanded = record {
    kinds = spent.grown.kinds;
    rooms = spent.grown.rooms;
    grows = spent.grown.grows;
    only = λ T all k p begun. elim (spent.grown.only (λ q. (pick T all q).0) (λ q i. (let d = (pick T all q).1 i in (d.0.closed, d.1))) k p) [
      | inl h ↦ inl (sym h.0 ∙ begun)
      | inr h ↦ inr (inside p h.0, ap (T p) h.1.3 ∙ ((pick T all p).1 h.0).0.keys h.1.0 h.1.2)
    ];
    cost = spent.cost;
  }
    where
      -- the sites that the loop demands at a place, where it is selected
      pick : (T : ℕ → ℕ → Bool) → ((p : ℕ) → p < count → HasAllDemands j (first + p) (T p)) → (p : ℕ) → (D : ℕ → Bool) × (is_in p sel ≡ true → IsDemandedAt j (first + p) u (T p) D × (D s ≡ true))
      pick T all p = by_test (is_in p sel) (λ i. (let d = demanded p (T p) i (all p (inside p i)) in (d.0, λ e. (d.1, d.2)))) (λ i. ((λ t. false), λ e. cc (sym i ∙ e)))

-- ---- What parts of a pass leave of a block, one after another.

pub goes_to : {V : Type 0} {D : V → Type 0} {g : _} (at turn : Turn V D g) (pass : ℕ) → turn ≡ record at { pass = turn.pass } → record turn { pass = pass } ≡ record at { pass = pass }
goes_to {V = V} {D = D} {g = g} at turn pass same = ap (λ (t : Turn V D g). record t { pass = pass }) same

pub leaves_then : {V : Type 0} {D : V → Type 0} {g : _} (t : Turn V D g) (a b c : Work) (l m n : ℕ) → Leaves t a b l m → Leaves t b c m n → Leaves t a c l n
leaves_then t a b c l m n h k = record {
  spends = spends_then (job_of t.job.now) t.first t.count a.lanes.items b.lanes.items c.lanes.items l m n h.spends k.spends;
  scratch = k.scratch ∙ h.scratch;
  levels = k.levels ∙ h.levels;
}

-- what evaluates nothing leaves it so
pub leaves_kept : {V : Type 0} {D : V → Type 0} {g : _} (t : Turn V D g) (a b c : Work) (m n : ℕ) → Leaves t a b m n → c.lanes.items ≡ b.lanes.items → KeepsRoom b c → Leaves t a c m n
leaves_kept t a b c m n h same room = grind arith

-- ---- a site without vectors

pub no_vector : (t : ColType) → (t ≡ ColType.Int) ⊎ (t ≡ ColType.Bool) → t ≡ ColType.Vect → ⊥
no_vector t h b = grind arith

pub site_no_vector : (j : JobView) (used : ℕ → Bool) (s : ℕ) (e : CheckedExpr) → IsSiteExpr (job_graph j) s e → ArePlain j used → used s ≡ true → e.kind ≡ ColType.Vect → ⊥
site_no_vector j used s e its plain u is =
    let f : true ≡ false = sym (ap is_vector is) ∙
    (plain_typed e.kinds (job_graph j).names e.tree e.kind its.typed.typed (columns_scalar e.kinds e.tree (plain_expr j used s e plain u its))).1 in
    cc f

-- ---- Filling what a pass reads lowers the limit at its first fault.

-- what is filled over a selection, up to its first fault, which lowers the limit
module _ (f : ℕ → Option EntryFault) (j : JobView) (first count : ℕ) (u : Option ℕ) (s pass : ℕ) (sel : List ℕ) (before after : List LaneView) (start end : ℕ) (old new : Found) (fault : Option PlaceFault)
    (spent : IsSpentOver j first u s sel before after start end) (is : fault ≡ fault_over f sel) (all_settled : IsSettled after (below_fault fault sel))
    (rising : AreRising sel) (inside : EachPlace sel (λ p. p < old.limit)) (known : (p : ℕ) → p < old.limit → IsSettledAt before p) (now : new ≡ noted first pass old fault) where
  below_is : below_fault fault sel ≡ filter (λ p. nat_lt p new.limit) sel
  below_is = left_below f sel first pass old fault inside ∙ ap (λ (x : Found). filter (λ p. nat_lt p x.limit) sel) (sym now)

  lowered : Lowers (where_in f sel) first pass old new
  lowered = subst (λ (x : Found). Lowers (where_in f sel) first pass old x) (sym now) (over_lowers f sel first pass old fault rising inside is)

  settled_at : (p : ℕ) → p < new.limit → IsSettledAt after p
  settled_at p lt =
      by_test (is_in p sel)
      (λ i. all_settled p (ap (is_in p) below_is ∙ in_filter (λ q. nat_lt q new.limit) p sel ∙ ap (λ b. b && nat_lt p new.limit) i ∙ (Decides-ltb p new.limit).1 lt))
      (λ i. (let l = lowered.falls in settled_outside j first count u s sel before after start end spent p i (known p (omega (arith, lt, l)))))

  pub filled_over : AreReady j first count after → (to : KeptPlaces) → to.limit ≡ Some new.limit → to.places ≡ below_fault fault sel → IsServedTo j first count f pass sel to after old new
  filled_over ready to limit left = record { ready = ready; settled = settled_at; lowers = lowered; its_limit = limit; left = left ∙ below_is }

-- ---- what gives a version its value

-- what was filled for it, the loop demands
pub source_leaves : {V : Type 0} {D : V → Type 0} {g : _} (t : Turn V D g) (u : Option ℕ) (s limit : ℕ) (x : Source) → ((E : ℕ → Bool) → IsSourceIn E x → E s ≡ true)
    → (sel : List ℕ) → limit ≤ t.count → EachPlace sel (λ p. p < limit)
    → ((p : ℕ) (T : ℕ → Bool) → is_in p sel ≡ true → HasAllDemands (turn_job t) (t.first + p) T → DemandsSource (turn_job t) (t.first + p) u T x)
    → (old new : Work) (start end : ℕ) → IsSpentInTurn t u s sel old new start end → KeepsRoom old new → Leaves t old new start end
source_leaves t u s limit x has sel le inside demanded old new start end spent room = record {
  spends =
      spends_filled (turn_job t) t.first t.count u s sel old.lanes.items new.lanes.items start end spent
      (λ p i. (let l = inside p i in omega (arith, l, le)))
      (λ p T i all. (let d = demanded p T i all in (d.0, d.1, has d.0 d.2)));
  scratch = room.scratch;
  levels = room.levels;
}

-- what faults at no selected place lowers nothing
pub none_served : (j : JobView) (first count : ℕ) (part : ℕ → Option EntryFault) (pass : ℕ) (to : KeptPlaces) (lanes : List LaneView) (s : Found) → AreReady j first count lanes → to.limit ≡ Some s.limit → EachPlace to.places (λ p. p < s.limit) → ((p : ℕ) → p < s.limit → IsSettledAt lanes p)
    → EachPlace to.places (λ p. part p ≡ None) → IsServedTo j first count part pass to.places to lanes s s
none_served j first count part pass to lanes s ready made inside settled none = grind (arith, none_lowers, selected_or_none, filter_all, Decides-ltb)

-- the places that are left were selected, and are below the limit
module _ (j : JobView) (first count : ℕ) (part : ℕ → Option EntryFault) (pass : ℕ) (sel : List ℕ) (to : KeptPlaces) (lanes : List LaneView) (old new : Found) (h : IsServedTo j first count part pass sel to lanes old new) where
  pub served_among : EachPlace to.places (λ q. is_in q sel ≡ true)
  served_among q i = filtered_in (λ x. nat_lt x new.limit) q sel (sym (ap (is_in q) h.left) ∙ i)

  pub served_inside : EachPlace to.places (λ q. q < new.limit)
  served_inside q i = ltb-true q new.limit (filter_passes sel (λ x. nat_lt x new.limit) q (sym (ap (is_in q) h.left) ∙ i))

  pub served_selected : IsSelected new.limit to
  served_selected = record { made = h.its_limit; inside = served_inside }

-- ---- one part after another

module _ (j : JobView) (first count : ℕ) (a b : ℕ → Option EntryFault) (pass : ℕ) (sel : List ℕ) (mid to : KeptPlaces) (between lanes : List LaneView) (f0 f1 f2 : Found)
    (h : IsServedTo j first count a pass sel mid between f0 f1) (k : IsServedTo j first count b pass mid.places to lanes f1 f2) where
  below : (x : ℕ) → (nat_lt x f1.limit && nat_lt x f2.limit) ≡ nat_lt x f2.limit
  below x = grind (arith, by_test, and_true, Decides-ltb, and_false)

  -- both are a part, which faults where one of them does
  pub served_then : (part : ℕ → Option EntryFault) → ((p : ℕ) → or_else (a p) (b p) ≡ part p) → IsServedTo j first count part pass sel to lanes f0 f2
  served_then part both = record {
    ready = k.ready;
    settled = k.settled;
    lowers =
        lowers_as (λ p. or_else (where_in a sel p) (where_in b sel p)) (where_in part sel) first pass f0 f2 (λ p lt. split (is_in p sel) p)
        (both_lower (where_in a sel) (where_in b sel) first pass f0 f1 f2 h.lowers
        (lowers_as (where_in b mid.places) (where_in b sel) first pass f1 f2 (λ p lt. grind (arith, in_filter, Decides-ltb, and_true)) k.lowers));
    its_limit = k.its_limit;
    left =
        k.left ∙ ap (filter (λ p. nat_lt p f2.limit)) h.left ∙ filter_twice (λ p. nat_lt p f1.limit) (λ p. nat_lt p f2.limit) sel
        ∙ (λ i. filter (λ x. below x i) sel);
  }
    where
      split : (c : Bool) (p : ℕ) → or_else (if c then a p else None) (if c then b p else None) ≡ (if c then part p else None)
      split c p = grind (arith, both)

-- ---- Elements of a site's vector, where the site's value is held.

pub given_none : (o : Outcome ⊥ Value) → fault_in o ≡ None → (v : Value) × (o ≡ Gives v)
given_none o h = grind arith

pub site_gives : (j : JobView) (first count : ℕ) (u : Option ℕ) (s : ℕ) → s < length (graph_sites (job_graph j)) → (lanes : List LaneView) → AreReady j first count lanes → (p : ℕ) → p < count
    → (l : LaneView) → slice_get lanes (key (job_graph j) s u) ≡ Some l → holds_at lanes (key (job_graph j) s u) p ≡ true → site_in {M = ⊥} j (first + p) u s ≡ Gives (value_of l p)
site_gives j first count u s inside lanes ready p low l at holds =
    let cell_is = held_of_lane (key_count (job_graph j)) lanes p (key (job_graph j) s u) ∙ ap (λ o. lane_held o p) at ∙ held_true l p (ap (λ o. lane_holds o p) (sym at) ∙ holds) in
    right_value (site_in j (first + p) u s) (value_of l p) (subst (λ (x : Held). IsRight (site_in j (first + p) u s) x) cell_is ((ready.sound p low).each u s inside))

-- what is told of a site's value by the lane that is read at its key
module _ {V : Type 0} {D : V → Type 0} {g : _} (t : Turn V D g) (lanes : List LaneView) (over : IsOver t lanes) (u : Option ℕ) (s : ℕ)
    (inside : s < length (graph_sites (job_graph (turn_job t)))) (p : ℕ) (low : p < t.count)
    (holds : holds_at lanes (key (job_graph (turn_job t)) s u) p ≡ true) (k : ℕ) (is : k ≡ key (job_graph (turn_job t)) s u)
    (small : k < key_count (job_graph (turn_job t))) (l : LaneView) (at : l ≡ get_or lanes k l)
    (i : ColumnInput) (input : (c : ℕ) → input_outcome c i ≡ (if is_held l p then Gives (value_of l p) else Needs c)) where
  its : slice_get lanes (key (job_graph (turn_job t)) s u) ≡ Some l
  its = let many = over.ready.many in ap (slice_get lanes) (sym is) ∙ slice_get_read lanes (length lanes) k l refl (omega (arith, small, many)) at

  abbrev given : Outcome ⊥ Value
  given = site_in {M = ⊥} (turn_job t) (t.first + p) u s

  gives : given ≡ Gives (value_of l p)
  gives = site_gives (turn_job t) t.first t.count u s inside lanes over.ready p low l its holds

  input_given : input_outcome 0 i ≡ Gives (value_of l p)
  input_given = input 0 ∙ ap (λ b. if b then Gives (value_of l p) else Needs 0) (ap (λ o. lane_holds o p) (sym its) ∙ holds)

  pub input_vect : (zs : _) → i ≡ ColumnInput.Vect zs → given ≡ Gives (Value.Vect zs.now)
  input_vect zs e = grind (arith, gives, input_given)

  pub never_stops : ((x : EntryFault) × (i ≡ ColumnInput.Faulted x)) ⊎ (i ≡ ColumnInput.Missing) → ⊥
  never_stops h = grind (arith, input_given)

  pub vect_only : slice_get (kinds_of lanes) (key (job_graph (turn_job t)) s u) ≡ Some ColType.Vect →
      ((x : ℤ) × (i ≡ ColumnInput.Int x)) ⊎ (((x : Bool) × (i ≡ ColumnInput.Bool x)) ⊎ (((x : EntryFault) × (i ≡ ColumnInput.Faulted x)) ⊎ (i ≡ ColumnInput.Missing))) → ⊥
  vect_only vectors h = grind (arith, input_given, never_stops, got_kind, its)

  -- what has no elements has 0 for each
  pub scalar_input : (tags n : ℕ) → ((x : ℤ) × (i ≡ ColumnInput.Int x)) ⊎ ((x : Bool) × (i ≡ ColumnInput.Bool x)) → (given >>= tag_element tags n) ≡ Gives (Value.Int (pos 0))
  scalar_input tags n h = grind (arith, gives, input_given)

pub no_number : (o : Outcome ⊥ Value) (k : EntryFault) → (v : Value) × (o ≡ Gives v) → o ≡ Faults k → ⊥
no_number o k v e = let f : ◌≡◌ {A = Outcome ⊥ Value} (Gives v.0) (Faults k) = sym v.1 ∙ e in cc f

pub lane_of_kind : (j : JobView) (first count : ℕ) (u : Option ℕ) (s : ℕ) → s < length (graph_sites (job_graph j)) → (lanes : List LaneView) → AreReady j first count lanes → (e : CheckedExpr) → IsSiteExpr (job_graph j) s e → AreSiteKinds (job_graph j) (kinds_of lanes)
    → slice_get (kinds_of lanes) (key (job_graph j) s u) ≡ Some e.kind
lane_of_kind j first count u s inside lanes ready e its kinds =
    let l = something_at lanes (key (job_graph j) s u) (let small = key_small (job_graph j) s u inside in let many = ready.many in omega (arith, small, many)) in
    let got = got_kind lanes (key (job_graph j) s u) l.0 l.1 in
    got ∙ ap Some (sym (kinds s u e l.0.kind its got))

-- the kind of a column
pub kind_got : (cs now : List Column) → now ≡ cs → (i : ℕ) → i < length cs → (d : Column) (t : ColType) → (get_or now i d).kind ≡ t → kind_at cs i ≡ Some t
kind_got cs now e i lt d t is = ap (option_map (λ (c : Column). c.kind)) (slice_get-get_or cs i d lt) ∙ ap (λ (xs : List Column). Some (get_or xs i d).kind) (sym e) ∙ ap Some is

-- ---- the site is filled, and then its elements are tested

module _ (j : JobView) (first count : ℕ) (u : Option ℕ) (s n tags pass : ℕ) (sel : List ℕ) (mid to : KeptPlaces) (between lanes : List LaneView) (f0 f1 f2 : Found)
    (h : IsServedTo j first count (site_fault j first u s) pass sel mid between f0 f1) (k : IsServedTo j first count (source_fault j first u (Source.Element s n tags)) pass mid.places to lanes f1 f2) where
  pub element_served : IsServedTo j first count (source_fault j first u (Source.Element s n tags)) pass sel to lanes f0 f2
  element_served =
      served_then j first count (site_fault j first u s) (source_fault j first u (Source.Element s n tags)) pass sel mid to between lanes f0 f1 f2 h k (source_fault j first u (Source.Element s n tags))
      (λ p. grind arith)

  -- the elements that are left are at hand
  pub element_held : s < length (graph_sites (job_graph j)) → f2.limit ≤ count → EachPlace mid.places (λ p. holds_at lanes (key (job_graph j) s u) p ≡ true) → EachPlace to.places (λ p. IsAtHand j first lanes u p (Source.Element s n tags))
  element_held inside le holds p i =
      let was = served_among j first count (source_fault j first u (Source.Element s n tags)) pass mid.places to lanes f1 f2 k p i in
      let lt = served_inside j first count (source_fault j first u (Source.Element s n tags)) pass mid.places to lanes f1 f2 k p i in
      let clear : source_fault j first u (Source.Element s n tags) p ≡ None = sym (ap (λ b. if b then source_fault j first u (Source.Element s n tags) p else None) was) ∙ k.lowers.clear p lt in
      let v = given_none (site_in {M = ⊥} j (first + p) u s >>= tag_element tags n) clear in
      (holds p was, v.0, v.1)

-- ---- Filling what an action reads, one version after another.

-- what is at hand stays so
pub still_at_hand : (j : JobView) (first count : ℕ) (before after : List LaneView) (start end : ℕ) → Spends j first count before after start end → (u : Option ℕ) (p : ℕ) (x : Source) → IsAtHand j first before u p x → IsAtHand j first after u p x
still_at_hand j first count before after start end spends u p (Source.Cell col) h = tt
still_at_hand j first count before after start end spends u p (Source.Site s) h = holds_on (key_count (job_graph j)) before after (key (job_graph j) s u) p (spends.grows p) h
still_at_hand j first count before after start end spends u p (Source.Element s k tags) h = (holds_on (key_count (job_graph j)) before after (key (job_graph j) s u) p (spends.grows p) h.0, h.1, h.2)

pub all_still : (j : JobView) (first count : ℕ) (before after : List LaneView) (start end : ℕ) → Spends j first count before after start end → (u : Option ℕ) (p : ℕ) (cs : List ℕ) → AreAtHand j first before u cs p → AreAtHand j first after u cs p
all_still j first count before after start end spends u p cs h =
    each_weaker (λ c. IsAtHand j first before u p (source_at j u c)) (λ c. IsAtHand j first after u p (source_at j u c)) (λ c hand. still_at_hand j first count before after start end spends u p (source_at j u c) hand) cs h

none_given : (o : Outcome ⊥ Value) (X : Type 0) → fault_in o ≡ None → IfGiven o X → X
none_given o X h x = grind arith

-- so many of the versions were served at the places of a selection, and what is left of it
pub record AreServedTo {V : Type 0} {D : V → Type 0} {g : _} (t : Turn V D g) (u : Option ℕ) (inputs sel : List ℕ) (old : Work) (start n : ℕ) (w : Work) (to : KeptPlaces) (steps : ℕ) : Type 0 where
  pub leaves : Leaves t old w start steps
  pub known : IsKnown t w
  pub selected : IsSelected w.found.limit to
  pub demanded : (p : ℕ) (T : ℕ → Bool) → is_in p to.places ≡ true → HasAllDemands (turn_job t) (t.first + p) T → DemandsInputs (turn_job t) (t.first + p) u T (drop n inputs)
  pub served : IsServedInTurn t (inputs_fault (turn_job t) t.first u (take n inputs)) sel to w.lanes.items old.found w.found
  pub held : EachPlace to.places (AreAtHand (turn_job t) t.first w.lanes.items u (take n inputs))

module _ {V : Type 0} {D : V → Type 0} {g : _} (t : Turn V D g) (u : Option ℕ) (inputs : List ℕ) where
  pub begin_served : (w : Work) (to : KeptPlaces) (steps : ℕ) → IsKnown t w → IsSelected w.found.limit to
      → ((p : ℕ) (T : ℕ → Bool) → is_in p to.places ≡ true → HasAllDemands (turn_job t) (t.first + p) T → DemandsInputs (turn_job t) (t.first + p) u T inputs) → AreServedTo t u inputs to.places w steps 0 w to steps
  begin_served w to steps known selected demanded = record {
    leaves = record { spends = spends_none (turn_job t) t.first t.count w.lanes.items steps; scratch = refl; levels = refl };
    known = known;
    selected = selected;
    demanded = demanded;
    served = none_served (turn_job t) t.first t.count (inputs_fault (turn_job t) t.first u []) t.pass to w.lanes.items w.found known.ready selected.made selected.inside known.settled (λ p i. refl);
    held = λ p i. tt;
  }

  module _ (sel : List ℕ) (old : Work) (start n : ℕ) (w : Work) (to : KeptPlaces) (steps : ℕ) (h : AreServedTo t u inputs sel old start n w to steps) where
    -- the next one is served
    pub next_served : n < length inputs → (now : Work) (left : KeptPlaces) (after : ℕ) → Leaves t w now steps after → IsServedInTurn t (source_fault (turn_job t) t.first u (source_in_turn t u (get_or inputs n 0))) to.places left now.lanes.items w.found now.found
        → EachPlace left.places (λ p. IsAtHand (turn_job t) t.first now.lanes.items u p (source_in_turn t u (get_or inputs n 0))) → AreServedTo t u inputs sel old start (n + 1) now left after
    next_served low now left after l s one =
        let j = turn_job t in
        let c = get_or inputs n 0 in
        let m : suc n ≡ n + 1 = omega arith in
        let rest : drop n inputs ≡ c ∷ drop (n + 1) inputs = drop-cons inputs n 0 low ∙ ap (λ k. c ∷ drop k inputs) m in
        let front : take n inputs ++ c ∷ [] ≡ take (n + 1) inputs = sym (take_next inputs n c (slice_get-get_or inputs n 0 low)) in
        let falls = s.lowers.falls in
        let le = h.known.limit in
        record {
          leaves = leaves_then t old w now start steps after h.leaves l;
          known = record { turn = h.known.turn; ready = s.ready; limit = omega (arith, falls, le); settled = s.settled };
          selected = served_selected j t.first t.count (source_fault (turn_job t) t.first u (source_in_turn t u c)) t.pass to.places left now.lanes.items w.found now.found s;
          demanded = λ p T i all. (
              let was = served_among j t.first t.count (source_fault (turn_job t) t.first u (source_in_turn t u c)) t.pass to.places left now.lanes.items w.found now.found s p i in
              let under = served_inside j t.first t.count (source_fault (turn_job t) t.first u (source_in_turn t u c)) t.pass to.places left now.lanes.items w.found now.found s p i in
              let d = subst (λ (cs : List ℕ). DemandsInputs j (t.first + p) u T cs) rest (h.demanded p T was all) in
              let clear : source_fault (turn_job t) t.first u (source_in_turn t u c) p ≡ None = sym (ap (λ b. if b then source_fault (turn_job t) t.first u (source_in_turn t u c) p else None) was) ∙ s.lowers.clear p under in
              (d.0, d.1, none_given (version_in j (t.first + p) u c) (HasInputs (λ s. d.0 s ≡ true) (source_at j u) (version_in j (t.first + p) u) (drop (n + 1) inputs)) clear d.2.1));
          served = subst (λ (cs : List ℕ). IsServedInTurn t (inputs_fault (turn_job t) t.first u cs) sel left now.lanes.items old.found now.found) front
              (served_then j t.first t.count (inputs_fault (turn_job t) t.first u (take n inputs)) (source_fault (turn_job t) t.first u (source_in_turn t u c)) t.pass sel to left w.lanes.items now.lanes.items old.found w.found now.found h.served s
              (inputs_fault (turn_job t) t.first u (take n inputs ++ c ∷ [])) (λ p. sym (last_fault (version_in j (t.first + p) u) c (take n inputs))));
          held = λ p i. (
              let was = served_among j t.first t.count (source_fault (turn_job t) t.first u (source_in_turn t u c)) t.pass to.places left now.lanes.items w.found now.found s p i in
              subst (λ (cs : List ℕ). AreAtHand j t.first now.lanes.items u cs p) front
              (each_append (λ v. IsAtHand j t.first now.lanes.items u p (source_at j u v)) (take n inputs) (c ∷ [])
              (all_still j t.first t.count w.lanes.items now.lanes.items steps after l.spends u p (take n inputs) (h.held p was)) (one p i, tt)));
        }

    -- which is at hand
    pub hand_served : n < length inputs → EachPlace to.places (λ p. source_fault (turn_job t) t.first u (source_in_turn t u (get_or inputs n 0)) p ≡ None) → EachPlace to.places (λ p. IsAtHand (turn_job t) t.first w.lanes.items u p (source_in_turn t u (get_or inputs n 0)))
        → AreServedTo t u inputs sel old start (n + 1) w to steps
    hand_served low clear hand =
        next_served low w to steps (record { spends = spends_none (turn_job t) t.first t.count w.lanes.items steps; scratch = refl; levels = refl })
        (none_served (turn_job t) t.first t.count (source_fault (turn_job t) t.first u (source_in_turn t u (get_or inputs n 0))) t.pass to w.lanes.items w.found h.known.ready h.selected.made h.selected.inside h.known.settled clear) hand

    pub next_demanded : n < length inputs → (p : ℕ) (T : ℕ → Bool) → is_in p to.places ≡ true → HasAllDemands (turn_job t) (t.first + p) T → DemandsSource (turn_job t) (t.first + p) u T (source_in_turn t u (get_or inputs n 0))
    next_demanded low p T i all = let d = subst (λ (cs : List ℕ). DemandsInputs (turn_job t) (t.first + p) u T cs) (drop-cons inputs n 0 low) (h.demanded p T i all) in (d.0, d.1, d.2.0)

    -- none is left
    pub all_served : length inputs ≤ n
        → IsServedInTurn t (inputs_fault (turn_job t) t.first u inputs) sel to w.lanes.items old.found w.found × EachPlace to.places (AreAtHand (turn_job t) t.first w.lanes.items u inputs)
    all_served le = subst (λ (cs : List ℕ). IsServedInTurn t (inputs_fault (turn_job t) t.first u cs) sel to w.lanes.items old.found w.found × EachPlace to.places (AreAtHand (turn_job t) t.first w.lanes.items u cs)) (take_all n inputs le) (h.served, h.held)

cell_given : (o : Option (List Value)) (col : ℕ) (v : Value) → option_and_then (λ row. slice_get row col) o ≡ Some v → cell_value {M = ⊥} (slice_get (unwrap_or o []) col) ≡ Gives v
cell_given o col v h = grind arith

module _ (rows : List (List Value)) (col : ℕ) (vectors : List (List ℤ)) (are : map (λ row. slice_get row col) rows ≡ map (λ zs. Some (Value.Vect zs)) vectors) (e : ℕ) (inside : e < length rows) where
  pub vector_there : e < length vectors
  vector_there = let l = column_length rows col (λ zs. Value.Vect zs) vectors are in omega (arith, l, inside)

  pub vector_given : cell_value {M = ⊥} (slice_get (row_in rows e) col) ≡ Gives (Value.Vect (get_or vectors e []))
  vector_given = cell_given (slice_get rows e) col _ (cell_of_column rows col e (λ zs. Value.Vect zs) vectors (get_or vectors e []) are (slice_get-get_or vectors e [] vector_there))

pub ruleset column_laws = (kind_got, vector_there, vector_given)

-- ---- The lanes that are gathered for an action suit it.

one_given : (f : ℕ → Outcome ⊥ Value) (cs : List ℕ) → length cs ≡ 1 → (v : Value) → f (get_or cs 0 0) ≡ Gives v → for_all f cs ≡ Gives (v ∷ [])
one_given f (a ∷ []) e v p = ap (λ o. o >>= λ y. Gives (y ∷ [])) p
one_given f cs e v p = absurd (omega (arith, e))

two_given : (f : ℕ → Outcome ⊥ Value) (cs : List ℕ) → length cs ≡ 2 → (v w : Value) → f (get_or cs 0 0) ≡ Gives v → f (get_or cs 1 0) ≡ Gives w → for_all f cs ≡ Gives (v ∷ w ∷ [])
two_given f (a ∷ b ∷ []) e v w p q = λ i. p i >>= λ y. (q i >>= λ z. Gives (z ∷ [])) >>= λ ys. Gives (y ∷ ys)
two_given f cs e v w p q = absurd (omega (arith, e))

three_given : (f : ℕ → Outcome ⊥ Value) (cs : List ℕ) → length cs ≡ 3 → (v w x : Value) → f (get_or cs 0 0) ≡ Gives v → f (get_or cs 1 0) ≡ Gives w → f (get_or cs 2 0) ≡ Gives x
    → for_all f cs ≡ Gives (v ∷ w ∷ x ∷ [])
three_given f (a ∷ b ∷ c ∷ []) e v w x p q r = λ i. p i >>= λ y. (q i >>= λ z. (r i >>= λ s. Gives (s ∷ [])) >>= λ ys. Gives (z ∷ ys)) >>= λ ys. Gives (y ∷ ys)
three_given f cs e v w x p q r = absurd (omega (arith, e))

suits_one : (k : ActionKind) (x : FedLane) (place : ℕ) → length (columns_of k) ≡ 1 → FitsFeed k (lane_value x place ∷ []) → SuitsAt k (One x) place
suits_one k x place n f = grind (arith, numeric_fits, single_fits, integer_fits)

suits_weighted : (k : ActionKind) (edges : List ℤ) (c n : List ℕ) (x w : FedLane) (place : ℕ) → k ≡ ActionKind.Histo1D edges c (Some n) → FitsFeed k (lane_value x place ∷ lane_value w place ∷ [])
    → SuitsAt k (Weighted x w) place
suits_weighted k edges c n x w place e f = rw e (let g = rw e at f in weighted_fits g.kinds (lane_value x place) (lane_value w place) g.permitted g.fit)

suits_pair : (k : ActionKind) (xs ys : List ℤ) (c d : List ℕ) (x y : FedLane) (place : ℕ) → k ≡ ActionKind.Histo2D xs ys c d None → FitsFeed k (lane_value x place ∷ lane_value y place ∷ [])
    → SuitsAt k (Pair x y) place
suits_pair k xs ys c d x y place e f = rw e (let g = rw e at f in pair_fits g.kinds (lane_value x place) (lane_value y place) g.permitted g.fit)

suits_triple : (k : ActionKind) (xs ys : List ℤ) (c d n : List ℕ) (x y w : FedLane) (place : ℕ) → k ≡ ActionKind.Histo2D xs ys c d (Some n)
    → FitsFeed k (lane_value x place ∷ lane_value y place ∷ lane_value w place ∷ []) → SuitsAt k (WeightedPair x y w) place
suits_triple k xs ys c d n x y w place e f = rw e (let g = rw e at f in triple_fits g.kinds (lane_value x place) (lane_value y place) (lane_value w place) g.permitted g.fit)

module _ {V : Type 0} {D : V → Type 0} {g : _} (t : Turn V D g) (own : ActionRead) (lanes : List LaneView) (can : CanGatherInTurn t own lanes)
    (place : ℕ) (low : place < t.count) (hand : AreHeldInTurn t own lanes place) where
  -- the lane is of the version of that number, where that is at hand
  abbrev Has : ℕ → FedLane → Type 0
  Has n x = IsAtHand (turn_job t) t.first lanes own.under place (source_in_turn t own.under (get_or own.inputs.now n 0))
      → IsLaneOf (version_in {M = ⊥} (turn_job t) (t.first + place) own.under (get_or own.inputs.now n 0)) x place

  abbrev AreLanes : Sources → Type 0
  AreLanes s = AreLanesOf (for_all (version_in {M = ⊥} (turn_job t) (t.first + place) own.under) own.inputs.now) own.kind.now s place

  pub lanes_one : (x : FedLane) → length own.inputs.now ≡ 1 → Has 0 x → AreLanes (One x)
  lanes_one x e lx = grind (arith, All-from_recursion, one_given, suits_one, can.fits place)

  pub lanes_weighted : (x w : FedLane) (edges : List ℤ) (c n : List ℕ) → own.kind.now ≡ ActionKind.Histo1D edges c (Some n) → Has 0 x → Has 1 w → AreLanes (Weighted x w)
  lanes_weighted x w edges c n e lx lw = grind (arith, All-from_recursion, two_given, suits_weighted, can.fits place)

  pub lanes_pair : (x y : FedLane) (xs ys : List ℤ) (c d : List ℕ) → own.kind.now ≡ ActionKind.Histo2D xs ys c d None → Has 0 x → Has 1 y → AreLanes (Pair x y)
  lanes_pair x y xs ys c d e lx ly = grind (arith, All-from_recursion, two_given, suits_pair, can.fits place)

  pub lanes_triple : (x y w : FedLane) (xs ys : List ℤ) (c d n : List ℕ) → own.kind.now ≡ ActionKind.Histo2D xs ys c d (Some n) → Has 0 x → Has 1 y → Has 2 w
      → AreLanes (WeightedPair x y w)
  lanes_triple x y w xs ys c d n e lx ly lw = grind (arith, All-from_recursion, three_given, suits_triple, can.fits place)

-- ---- What the lane of a site has at a place.

-- a lane of numbers or truths has what is held of its key
module _ (lanes : List LaneView) (k : ℕ) (r : LaneView) (its : slice_get lanes k ≡ Some r) (numbers : List ℤ) (are : numbers ≡ r.numbers) (long : r.count ≤ length numbers) where
  pub int_held : r.kind ≡ ColType.Int → (l : LaneView) → slice_get lanes k ≡ Some l → (p : ℕ) → p < l.count → (p < length numbers) × (Value.Int (at_place numbers p) ≡ value_of l p)
  int_held is l h p low = grind arith

  pub bool_held : r.kind ≡ ColType.Bool → (l : LaneView) → slice_get lanes k ≡ Some l → (p : ℕ) → p < l.count → (p < length numbers) × (Value.Bool (truth_of (at_place numbers p)) ≡ value_of l p)
  bool_held is l h p low = grind arith

pub vector_kind : (lanes : List LaneView) (k : ℕ) (r : LaneView) → slice_get lanes k ≡ Some r → r.kind ≡ ColType.Vect → slice_get (kinds_of lanes) k ≡ Some ColType.Vect
vector_kind lanes k r there is = got_kind lanes k r there ∙ ap Some is

pub ruleset key_laws = (int_held, bool_held, vector_kind, slice_get_read)

-- ---- where a version stands

pub cell_source : (f : ℕ → ℕ) (x : Source) (col : ℕ) → place_of f x ≡ ValuePlace.Cell col → x ≡ Source.Cell col
cell_source f x col e = grind arith

pub element_source : (f : ℕ → ℕ) (x : Source) (k i n : ℕ) → place_of f x ≡ ValuePlace.Element k i n → (s : ℕ) × (x ≡ Source.Element s i n)
element_source f (Source.Element s a b) k i n e = let first : a ≡ i = cc e in let second : b ≡ n = cc e in (s, λ t. Source.Element s (first t) (second t))
element_source f x k i n e = cc e

pub ruleset place_laws = (cell_source, element_source)

-- a site that is read
module _ {V : Type 0} {D : V → Type 0} {g : _} (t : Turn V D g) (lanes : List LaneView) (over : IsOver t lanes) (u : Option ℕ) (version : ℕ)
    (can : (scratch levels : ℕ) × CanServeWith t u lanes scratch levels version)
    (k : ℕ) (stood : place_of (key_under (job_graph (turn_job t)) u) (source_in_turn t u version) ≡ ValuePlace.Key k) where
  abbrev j : JobView
  j = turn_job t

  site_is : (s : ℕ) × (source_in_turn t u version ≡ Source.Site s) × (key (job_graph j) s u ≡ k)
  site_is = grind arith

  site_inside : site_is.0 < length (graph_sites (job_graph j))
  site_inside = (subst (IsServable j t.first u t.count (kinds_of lanes) t.cells.now can.0 can.1) site_is.1 can.2.1).0

  pub key_inside : k < length lanes
  key_inside = let many = over.ready.many in let small = key_small (job_graph j) site_is.0 u site_inside in let same = site_is.2 in omega (arith, many, small, same)

  pub lane_gives : (fed : FedLane) → ((l : LaneView) → slice_get lanes k ≡ Some l → HasHeld l fed)
      → (p : ℕ) → p < t.count → IsAtHand j t.first lanes u p (source_in_turn t u version) → IsLaneOf (version_in {M = ⊥} j (t.first + p) u version) fed p
  lane_gives fed has p low hand =
      let got = something_at lanes k key_inside in
      let l = got.0 in
      let has_p = has l got.1 p
      (let c = over.ready.counts k l (slice_get_within lanes k l got.1) in let e = ap (λ (y : LaneView). y.count) (get_or_from_slice_get lanes k l l got.1) in omega (arith, c, e, low)) in
      let at : slice_get lanes (key (job_graph j) site_is.0 u) ≡ Some l = ap (slice_get lanes) site_is.2 ∙ got.1 in
      let holds : holds_at lanes (key (job_graph j) site_is.0 u) p ≡ true = subst (IsAtHand j t.first lanes u p) site_is.1 hand in
      record {
        there = has_p.0;
        value = ap (source_value {M = ⊥} (row_of j (t.first + p)) (site_in j (t.first + p) u)) site_is.1
            ∙ site_gives j t.first t.count u site_is.0 site_inside lanes over.ready p low l at holds ∙ ap Gives (sym has_p.1);
      }

  pub no_vectors : IsWhole j u (kinds_of lanes) (source_in_turn t u version) → slice_get (kinds_of lanes) k ≡ Some ColType.Vect → ⊥
  no_vectors whole vector = subst (IsWhole j u (kinds_of lanes)) site_is.1 whole (ap (slice_get (kinds_of lanes)) site_is.2 ∙ vector)

  -- where its value is held it is at hand, and faults not
  module _ (sel : List ℕ) (held : EachPlace sel (λ p. holds_at lanes k p ≡ true)) where
    holds : EachPlace sel (λ p. holds_at lanes (key (job_graph j) site_is.0 u) p ≡ true)
    holds p i = ap (λ n. holds_at lanes n p) site_is.2 ∙ held p i

    pub hand_held : EachPlace sel (λ p. IsAtHand j t.first lanes u p (source_in_turn t u version))
    hand_held p i = subst (IsAtHand j t.first lanes u p) (sym site_is.1) (holds p i)

    pub hand_clear : EachPlace sel (λ p. p < t.count) → EachPlace sel (λ p. source_fault (turn_job t) t.first u (source_in_turn t u version) p ≡ None)
    hand_clear low p i = ap (λ (y : Source). source_fault j t.first u y p) site_is.1
        ∙ held_no_fault j t.first u t.count site_is.0 site_inside lanes over.ready p (low p i) (holds p i)
