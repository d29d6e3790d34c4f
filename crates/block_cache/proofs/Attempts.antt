-- What one evaluation of a site at the places of a group comes to.
use Rattle.lemmas.proofs.{◌≡◌, ◌<◌, ◌≤◌, ◌+◌, ◌⊎◌, inl, ℕ, zero, suc, true, false, List, [], ◌∷◌, length, take, Option, Some, None, refl, sym, ◌∙◌, ap, subst, arith, slice_get, Contains, All, get_or, ℤ, Bool, inr, ◌||◌, not, cond, nat_eq, if◌then◌else◌, All-contains, ltb-true, false_from_ne_true, or_left, same_some, something_at, get_or_from_slice_get, mapped_at, filter, slice_get-get_or, Decides-eqb, range_with_len, sum_by, sum_by-cons}
use Rattle.rdf_values.specs.{EntryFault, Value, ColType, EachColumn, history, Bin, BinOp, Call, Col, Cond, End, Lit, More, Neg, Not, Pick, Tree, Trees}
use Rattle.rdf_model.specs.{fault_in, Faults, Gives, Needs, Outcome, ◌>>=◌, is_set, is_true, truth_of, call_outcome, evaluate, evaluate_all, in_order, is_need, operation, picked, tag_element, with_needs, without}
use Rattle.expr_eval.specs.{ScalarStop}
use Rattle.expr_eval.specs.declared.stop.ScalarStop.TheVariants.{Fault, Need}
use Rattle.expr_lanes.specs.{EachPlace, is_given, is_in, Stopped, stopped, at_place, IsSelected, depth}
use Rattle.expr_lanes.proofs.Composed.{filtered_out, filter_alike, first_in_range}
use Rattle.graph_numbers.specs.{graph_sites, graph_variations, GraphView, Source, graph_under, IsBelow, IsSiteExpr, SiteAt, version_count, source_value}
use Rattle.block_cache.specs.{begun_at, cells_at, fault_of, held_at, holds_at, is_below, is_held, IsAttemptedFor, IsFaultOf, IsLeastFault, IsSameAt, IsTelling, IsTriedFor, IsWaiting, lane_holds, LaneView, need_at, own_key, PlaceFault, site_fault, AreReadyOver, block_job, CanFillFor, HasLane, HasSource, IsLoaded, IsTriable, kinds_of, IsFilledFor, IsPassedFor, IsSettled, value_for, value_of, AreSiteKinds, CanFill, IsRankedBelow, IsGrownOver, IsOnlyCalled, IsSettledTo, left_to_begin, noted_in}
use Rattle.loop_keys.specs.{IsMissingSource, IsSiteOf, job_graph, JobView, key, key_count, keys_before, slot_at, source_at, Held, held_in, IsRight, site_in, truth_in, ArePlain, IsJob, IsSourceIn, MeetsAt, IsClosed, row_of, version_in}
use Rattle.loop_keys.proofs.KeyLaws.{key_below, key_small, in_source, grows_on}
use Rattle.block_cache.specs.declared.block.Wanted.{Wanted}
use Rattle.block_cache.proofs.OverLaws.{parts_of, all_grown, all_newly, all_same, own_begun, holds_nothing, same_holds, lane_is, same_held, held_of_lane, lane_held, right_value, held_true, same_on, holds_is}
use Rattle.block_cache.proofs.LaneSteps.{filter_in, below_selected, noted_is, stays, stop_there, stop_told, told_stop}
use Rattle.expr_check.specs.{CheckedExpr, is_vector}
use Rattle.graph_numbers.proofs.Closing.{columns_below, each_both}
use Rattle.loop_keys.proofs.EvaluateLaws.{each_kind, accepted_of, met_each, known_never, none_held, site_known, whole}
use Rattle.rdf_model.proofs.Typing.{each_weaker}
use Rattle.loop_keys.proofs.ActionLaws.{plain_closed}
use Rattle.std.proofs.lemmas.List.Sums.{sum_by-le-sum_by}
use Rattle.rdf_values.specs.expressions.Expressions.{Truth}

-- a lower site has a lower key
pub key_lower : (g : GraphView) (t s : ℕ) (w u : Option ℕ) → t < s → s < length (graph_sites g) → key g t w < key g s u
key_lower g t s w u low inside =
    let x = something_at (graph_sites g) t (omega (arith, low, inside)) in
    let l = key_below (graph_variations g) (graph_sites g) t s x.0 w x.1 low in
    let p = ap (λ o. keys_before (graph_variations g) (graph_sites g) t + slot_at (graph_variations g) o w) x.1 in
    omega (arith, l, p)

pub get_take : {A : Type 0} (xs : List A) (k i : ℕ) → i < k → slice_get (take k xs) i ≡ slice_get xs i
get_take xs zero i low = absurd (omega (arith, low))
get_take [] (suc k) i low = refl
get_take (x ∷ xs) (suc k) zero low = refl
get_take (x ∷ xs) (suc k) (suc i) low = get_take xs k i (omega (arith, low))

abbrev MissingSite : JobView → Option ℕ → ℕ → (ℕ → Type 0) → Source → Type 0
MissingSite j u s Lacks x = (t : ℕ) × IsSiteOf t x × (t < s) × Lacks t

missing_site : (j : JobView) (u : Option ℕ) (s : ℕ) (lanes : List LaneView) (p : ℕ) (x : Source) → IsMissingSource j u (cells_at (key_count (job_graph j)) lanes p) s x → MissingSite j u s (λ t. holds_at lanes (key (job_graph j) t u) p ≡ false) x
missing_site j u s lanes p x h = grind (arith, holds_nothing)

of_fault : (o : Outcome ℕ Value) (k : EntryFault) → told_stop o ≡ Some (Fault k) → o ≡ Faults k
of_fault o k e = grind (arith, same_some)

module _
    {V : Type 0} {D : V → Type 0} {g : _} (w : Wanted V D g) {group left : List ℕ} {before new : List LaneView} {more : List Stopped} (t : IsTriedFor w group left before new [] more)
    (low : EachPlace group (λ p. p < w.block.now.count)) (lacks : EachPlace group (λ p. holds_at before (own_key w) p ≡ false))
  where
    open parts_of w use {j, first, u, keys}

    unknown : EachPlace group (λ p. is_held t.at.own p ≡ false)
    unknown p i = ap (λ o. lane_holds o p) (sym t.at.is_own) ∙ lacks p i

    outside_as_was : (p : ℕ) → is_in p group ≡ false → held_at t.at.own p ≡ held_at t.at.lane p
    outside_as_was p out = same_held t.told group left t.at.own t.at.lane [] more t.evaluated unknown p (ap (is_in p) t.evaluated.left_in ∙ filtered_out (λ p. is_given (t.told p)) p group out)

    as_was : (p : ℕ) → (is_held t.at.own p ≡ true) ⊎ (is_in p group ≡ false) → held_at t.at.own p ≡ held_at t.at.lane p
    as_was p h = grind (arith, outside_as_was, false_from_ne_true, unknown)

    same : (k p : ℕ) → (k ≡ own_key w → ⊥) ⊎ (is_in p group ≡ false) → IsSameAt keys before new k p
    same = all_same w t.at t.evaluated.begun as_was

    -- a place that came to a value holds it
    given_holds : (p : ℕ) (v : Value) → is_in p group ≡ true → t.told p ≡ Gives v → holds_at new (own_key w) p ≡ true
    given_holds p v i e =
        ap (λ o. lane_holds o p) (lane_is t.at) ∙ t.evaluated.held p ∙ or_left (is_in p left) (is_held t.at.own p) (ap (is_in p) t.evaluated.left_in ∙ filter_in group (λ q. is_given (t.told q)) p i (ap is_given e))

    stops : (p : ℕ) (a : ScalarStop) → is_in p group ≡ true → told_stop (t.told p) ≡ Some a → Contains more (stopped p a)
    stops = stop_there t.told group more t.evaluated.joined

    -- what a place waits for
    waits_for : (p c : ℕ) → p < w.block.now.count → t.told p ≡ Needs c → IsWaiting j first u w.site new p c
    waits_for p c near is =
        let told : IsTelling j (first + p) u (cells_at keys (take (own_key w) before) p) w.site (Needs c) = subst (λ (o : Outcome ℕ Value). IsTelling j (first + p) u (cells_at keys (take (own_key w) before) p) w.site o) is (t.telling p near) in
        let m = missing_site j u w.site (take (own_key w) before) p (source_at j u c) told.0.1 in
        record {
          there = told.0.0;
          site = m.0;
          source = m.1;
          lower = m.2;
          lacks =
              (let lower = key_lower (job_graph j) m.0 w.site u u m.2 w.there in
              let other : key (job_graph j) m.0 u ≡ own_key w → ⊥ = λ e. absurd (omega (arith, lower, e)) in
              same_holds keys before new (key (job_graph j) m.0 u) p (same (key (job_graph j) m.0 u) p (inl other)) ∙ ap (λ o. lane_holds o p) (sym (get_take before (own_key w) (key (job_graph j) m.0 u) lower)) ∙ m.3);
          met = told.1;
        }

    none_in : (x : Stopped) → more ≡ [] → Contains more x → ⊥
    none_in x none c = let lt : c.0 < length more = c.1 in let e : length more ≡ 0 = ap (λ (l : List Stopped). length l) none in absurd (omega (arith, lt, e))

    -- where no place stops, each holds its value
    pub all_held : more ≡ [] → EachPlace group (λ p. holds_at new (own_key w) p ≡ true)
    all_held none p i = go (t.told p) refl
      where
        go : (o : Outcome ℕ Value) → t.told p ≡ o → holds_at new (own_key w) p ≡ true
        go (Gives v) e = given_holds p v i e
        go (Faults k) e = absurd (none_in (stopped p (Fault k)) none (stops p (Fault k) i (ap told_stop e)))
        go (Needs c) e = absurd (none_in (stopped p (Need c)) none (stops p (Need c) i (ap told_stop e)))

    told_at : (x : Stopped) → Contains more x → (is_in x.place group ≡ true) × (told_stop (t.told x.place) ≡ Some x.stop)
    told_at = stop_told t.told group more t.evaluated.joined

    -- the stops are at places of the block
    pub place_inside : (x : Stopped) → Contains more x → x.place < w.block.now.count
    place_inside x inside = low x.place (told_at x inside).0

    module _ (found : Option PlaceFault) (least : IsLeastFault more found) (needs noted : List ℕ) (room : w.block.now.count ≤ length needs) (notes : noted ≡ noted_in needs more) where
      found_here : IsFaultOf (site_fault j first u w.site) group found
      found_here = go found least
        where
          go : (o : Option PlaceFault) → IsLeastFault more o → IsFaultOf (site_fault j first u w.site) group o
          go None h = tt
          go (Some x) h =
              let a = told_at (stopped x.place (Fault x.kind)) h.0 in
              let told : IsTelling j (first + x.place) u (cells_at keys (take (own_key w) before) x.place) w.site (Faults x.kind) =
              subst (λ (o : Outcome ℕ Value). IsTelling j (first + x.place) u (cells_at keys (take (own_key w) before) x.place) w.site o) (of_fault (t.told x.place) x.kind a.1) (t.telling x.place (low x.place a.0)) in
              (a.0, ap fault_in told)

      not_below : (p : ℕ) (k : EntryFault) (o : Option PlaceFault) → IsLeastFault more o → Contains more (stopped p (Fault k)) → is_below o p ≡ true → ⊥
      not_below p k None h c low = let none : fault_of (Fault k) ≡ None = All-contains (λ (x : Stopped). fault_of x.stop ≡ None) more (stopped p (Fault k)) h c in cc none
      not_below p k (Some x) h c low =
          let le : x.place ≤ p = All-contains (λ (y : Stopped). (f : EntryFault) → fault_of y.stop ≡ Some f → x.place ≤ y.place) more (stopped p (Fault k)) h.1 c k refl in
          let lt : p < x.place = ltb-true p x.place low in
          absurd (omega (arith, le, lt))

      waits_here : EachPlace group (λ p. holds_at new (own_key w) p ≡ false → is_below found p ≡ true → IsWaiting j first u w.site new p (need_at noted p))
      waits_here p i none below = go (t.told p) refl
        where
          go : (o : Outcome ℕ Value) → t.told p ≡ o → IsWaiting j first u w.site new p (need_at noted p)
          go (Gives v) e = absurd (cc (given_holds p v i e, none))
          go (Faults k) e = absurd (not_below p k found least (stops p (Fault k) i (ap told_stop e)) below)
          go (Needs c) e =
              let near = low p i in
              let noted_as : need_at (noted_in needs more) p ≡ c = noted_is more needs p c (omega arith) (stops p (Need c) i (ap told_stop e)) (λ x inside at. same_some (sym (told_at x inside).1 ∙ ap (λ n. told_stop (t.told n)) at ∙ ap told_stop e)) in
              subst (λ (n : ℕ). IsWaiting j first u w.site new p n) (sym (ap (λ ns. need_at ns p) notes ∙ noted_as)) (waits_for p c near e)

      pub attempted : IsAttemptedFor w group before new needs noted found
      attempted = record {
        grown = all_grown w t.at t.evaluated.begun as_was;
        ready = t.ready;
        begun = λ p i. own_begun w t.at t.evaluated.begun as_was p ∙ or_left (is_in p group) (begun_at before (own_key w) p) i;
        same = same;
        found_is = found_here;
        waits = waits_here;
        others = λ p out. rw notes (stays more needs p (need_at needs p) refl (λ x inside at. cc (sym (ap (λ n. is_in n group) at) ∙ (told_at x inside).0, out)));
        newly = all_newly w t.at t.evaluated.begun as_was;
      }

-- ---- a site that can be filled can be tried

pub got_kind : (lanes : List LaneView) (k : ℕ) (l : LaneView) → slice_get lanes k ≡ Some l → slice_get (kinds_of lanes) k ≡ Some l.kind
got_kind lanes k l at = mapped_at (λ (x : LaneView). x.kind) lanes k l at

-- the site whose expression it is
pub site_tree : {g : GraphView} {s : ℕ} {e : CheckedExpr} → IsSiteExpr g s e → (x : SiteAt) × (slice_get (graph_sites g) s ≡ Some x) × (x.tree ≡ e.tree)
site_tree its = grind arith

module _
    {V : Type 0} {D : V → Type 0} {g : _} (w : Wanted V D g) {lanes : List LaneView} (ready : AreReadyOver w.block.now lanes) {scratch levels : ℕ} (can : CanFillFor w (kinds_of lanes) scratch levels)
    (e : CheckedExpr) (its : IsSiteExpr (job_graph (block_job w.block.now)) w.site e)
  where
    open parts_of w use {j, first, u, count, s}
    open w.block.now.cells use {now as cells}

    counted : (l : LaneView) (k : ℕ) → slice_get lanes k ≡ Some l → k < length lanes → l.count ≡ count
    counted l k at among = ap (λ (y : LaneView). y.count) (sym (get_or_from_slice_get lanes k l l at)) ∙ ready.counts k l among

    lane_below : (t : ℕ) → t < s → HasLane count (take (key (job_graph j) s u) lanes) (key (job_graph j) t u)
    lane_below t below =
        let lower = key_lower (job_graph j) t s u u below w.there in
        let small = key_small (job_graph j) s u w.there in
        let among : key (job_graph j) t u < length lanes = omega (arith, lower, small, ready.many) in
        let l = something_at lanes (key (job_graph j) t u) among in
        (l.0, get_take lanes (key (job_graph j) s u) (key (job_graph j) t u) lower ∙ l.1, counted l.0 (key (job_graph j) t u) l.1 among)

    source_of : (src : Source) → IsLoaded j first count cells src → IsBelow (length j.dataset.columns) s src → HasSource j first u count (take (key (job_graph j) s u) lanes) cells src
    source_of src loaded below = grind (arith, lane_below)

    sources : All (λ (c : ℕ × ColType). HasSource j first u count (take (key (job_graph j) s u) lanes) cells (source_at j u c.0)) e.kinds
    sources =
        let tree = site_tree its in
        let each = can.each s tree.0 can.has tree.1 in
        let below = columns_below j.dataset.fns j.dataset.columns (graph_under (job_graph j) u) (history j.script) (accepted_of j w.block.now.fits.job) s tree.0 tree.1 in
        let P : ℕ → Type 0 = λ c. HasSource j first u count (take (key (job_graph j) s u) lanes) cells (source_at j u c) in
        each_kind P e its.typed.columns (subst (EachColumn P) tree.2 (each_both _ _ P (λ c loaded low. source_of (source_at j u c) loaded low.1) tree.0.tree each.loaded below))

    pub can_try : IsTriable j first u count lanes cells scratch s e
    can_try = grind (arith, got_kind, site_tree, sources)

-- ---- the places of a selection that pass a filter

module _
    {V : Type 0} {D : V → Type 0} {g : _} (w : Wanted V D g) {sel between : List ℕ} {lanes : List LaneView} {fault : Option PlaceFault} (filled : IsFilledFor w sel between lanes fault) (k : ℕ) (d : LaneView)
    (same : k ≡ own_key w) (among : k < length lanes)
    (truth : slice_get (kinds_of lanes) (own_key w) ≡ Some ColType.Bool)
  where
    open parts_of w use {j, first, u}

    abbrev l : LaneView
    l = get_or lanes k d

    at : slice_get lanes (own_key w) ≡ Some l
    at = ap (slice_get lanes) (sym same) ∙ slice_get-get_or lanes k d among

    gives_value : (p : ℕ) → p < w.block.now.count → is_held l p ≡ true → site_in {M = ⊥} j (first + p) u w.site ≡ Gives (value_of l p)
    gives_value p low holds =
        let cell : held_in (cells_at (key_count (job_graph j)) lanes p) (own_key w) ≡ lane_held (Some l) p = held_of_lane (key_count (job_graph j)) lanes p (own_key w) ∙ ap (λ o. lane_held o p) at in
        right_value (site_in j (first + p) u w.site) (value_of l p) (subst (λ (h : Held). IsRight (site_in j (first + p) u w.site) h) (cell ∙ held_true l p holds) ((filled.ready.sound p low).each u w.site w.there))

    is_bool : l.kind ≡ ColType.Bool
    is_bool = same_some (sym (got_kind lanes (own_key w) l at) ∙ truth)

    -- the lane of a key with truths has no vectors
    pub truth_scalar : is_vector l.kind ≡ false
    truth_scalar = ap is_vector is_bool

    true_where : (p : ℕ) → p < w.block.now.count → holds_at lanes (own_key w) p ≡ true → is_set (at_place l.numbers p) ≡ is_true (truth_in j (first + p) u w.site)
    true_where p low holds =
        sym (ap is_true (ap (λ o. o >>= truth_of) (gives_value p low (ap (λ o. lane_holds o p) (sym at) ∙ holds)) ∙ ap (λ k. truth_of {M = ⊥} (value_for k l.vectors (at_place l.numbers p))) is_bool))

    pub passed_with : {left : List ℕ} → IsSettled lanes between → IsSelected w.block.now.count sel [] → left ≡ filter (λ p. is_set (at_place l.numbers p)) between → IsPassedFor w sel left lanes fault
    passed_with settled selected left_is =
        let low = (below_selected fault selected filled.left_is).inside in
        record {
          fault = filled.fault;
          left_is = left_is ∙ filter_alike _ _ between (λ p i. true_where p (low p i) (filled.held p i)) ∙ ap (filter _) filled.left_is;
          ready = filled.ready;
          settled = rw (sym filled.left_is) settled;
        }

-- ---- the sites that a site meets can be filled where it can

pub met_used : (j : JobView) (job : IsJob j) (entry : ℕ) (u : Option ℕ) (s c t : ℕ) (used : ℕ → Bool) → ArePlain j used → used s ≡ true → MeetsAt j entry u s c → IsSiteOf t (source_at j u c) → used t ≡ true
met_used j job entry u s c t used plain has met site = in_source used t (source_at j u c) site ((plain_closed j job entry u used plain).each s c has met)

pub ranked : (rank : ℕ → ℕ) (m t : ℕ) (x : Source) → IsSiteOf t x → IsRankedBelow rank m x → rank t < m
ranked rank m t x site h = grind arith

-- with one level fewer
pub can_below : (j : JobView) (job : IsJob j) {first : ℕ} {u : Option ℕ} {count s : ℕ} (c t p : ℕ) {kinds : List ColType} {cells : List (List ℤ)} {scratch levels : ℕ} (fewer : ℕ)
    → CanFill j first u count kinds cells scratch levels s → MeetsAt j (first + p) u s c → IsSiteOf t (source_at j u c)
    → levels ≤ fewer + 1 → CanFill j first u count kinds cells scratch fewer t
can_below j job {first = first} {u = u} {s = s} c t p fewer can met site less = record {
  used = can.used;
  has = in_source can.used t (source_at j u c) site (met_each j job (first + p) u s c (λ d. IsSourceIn can.used (source_at j u d)) met (can.each s met.0 can.has met.1).closed);
  kinds_are = can.kinds_are;
  rank = can.rank;
  each = can.each;
  room =
      (let falls = met_each j job (first + p) u s c (λ d. IsRankedBelow can.rank (can.rank s) (source_at j u d)) met (can.each s met.0 can.has met.1).falls in
      let lower = ranked can.rank (can.rank s) t (source_at j u c) site falls in
      let room = can.room in
      omega (arith, lower, room, less));
}

-- over lanes of the same kinds
pub can_moved : {j : JobView} {first : ℕ} {u : Option ℕ} {count s : ℕ} {kinds now : List ColType} {cells : List (List ℤ)} {scratch left levels : ℕ} → CanFill j first u count kinds cells scratch levels s → now ≡ kinds
    → left ≡ scratch → CanFill j first u count now cells left levels s
can_moved can same enough = rw (same, enough) can

-- the sites of what a site reads have lower numbers: they may stand for the ranks
pub falls_by_number : (j : JobView) (job : IsJob j) (u : Option ℕ) (s : ℕ) (x : SiteAt) → slice_get (graph_sites (job_graph j)) s ≡ Some x → EachColumn (λ c. IsRankedBelow (λ n. n) s (source_at j u c)) x.tree
falls_by_number j job u s x at =
    each_weaker (λ c. (c < version_count j.dataset.columns (history j.script)) × IsBelow (length j.dataset.columns) s (source_at j u c)) _ (λ c below. lower (source_at j u c) below.1) x.tree (columns_below j.dataset.fns j.dataset.columns (graph_under (job_graph j) u) (history j.script) (accepted_of j job) s x at)
  where
    lower : (src : Source) → IsBelow (length j.dataset.columns) s src → IsRankedBelow (λ n. n) s src
    lower (Source.Cell col) below = tt
    lower x below = below

pub in_all : (x : Source) → IsSourceIn (λ t. true) x
in_all x = grind arith

-- each site can be filled, with vectors or without, where the levels of scratch are enough for each expression, the columns are there, and
-- there is a level for each site
pub can_fill_site : (j : JobView) (job : IsJob j) (first : ℕ) (u : Option ℕ) (count s : ℕ) (kinds : List ColType) (cells : List (List ℤ)) (scratch levels : ℕ) → AreSiteKinds (job_graph j) kinds
    → ((t : ℕ) (x : SiteAt) → slice_get (graph_sites (job_graph j)) t ≡ Some x → (depth x.tree ≤ scratch) × EachColumn (λ c. IsLoaded j first count cells (source_at j u c)) x.tree) → s < levels → CanFill j first u count kinds cells scratch levels s
can_fill_site j job first u count s kinds cells scratch levels kinds_are each room = record {
  used = λ t. true;
  has = refl;
  kinds_are = kinds_are;
  rank = λ n. n;
  each = λ t x has at. record {
    deep = (each t x at).0;
    loaded = (each t x at).1;
    closed = each_weaker (λ c. IsLoaded j first count cells (source_at j u c)) _ (λ c loaded. in_all (source_at j u c)) x.tree (each t x at).1;
    falls = falls_by_number j job u t x at;
  };
  room = room;
}

-- ---- what is known over a block grows, one step after another

-- all sites are closed
pub all_closed : (j : JobView) (entry : ℕ) (u : Option ℕ) → IsClosed j entry u (λ t. true)
all_closed j entry u = record { each = λ s c d met. in_all (source_at j u c) }

module _ (j : JobView) (first : ℕ) (u : Option ℕ) (s : ℕ) (sel : List ℕ) where
  abbrev n : ℕ
  n = key_count (job_graph j)

  only_on : (a b c : List LaneView) → IsOnlyCalled j first u s sel a b → IsOnlyCalled j first u s sel b c → IsOnlyCalled j first u s sel a c
  only_on a b c h i D each k p = elim (h D each k p) [
    | inl x ↦ elim (i D each k p) [ inl y ↦ inl (same_on n a b c k p x y) | inr y ↦ inr y ]
    | inr x ↦ inr x
  ]

  pub grown_on : (a b c : List LaneView) → IsGrownOver j first u s sel a b → IsGrownOver j first u s sel b c → IsGrownOver j first u s sel a c
  grown_on a b c h i = record {
    kinds = i.kinds ∙ h.kinds;
    rooms = i.rooms ∙ h.rooms;
    stays = λ k p q. i.stays k p (h.stays k p q);
    grows = λ p. grows_on (cells_at n a p) (cells_at n b p) (cells_at n c p) (h.grows p) (i.grows p);
    only = only_on a b c h.only i.only;
  }

  -- a lower site was filled at places at which the site's evaluation meets it
  pub grown_below : (a b : List LaneView) (group : List ℕ) (t : ℕ) → t < s → EachPlace group (λ p. is_in p sel ≡ true) → EachPlace group (λ p. (c : ℕ) × MeetsAt j (first + p) u s c × IsSiteOf t (source_at j u c)) → IsGrownOver j first u t group a b
      → IsGrownOver j first u s sel a b
  grown_below a b group t lower sub meets h = record { kinds = h.kinds; rooms = h.rooms; stays = h.stays; grows = h.grows; only = only }
    where
      only : IsOnlyCalled j first u s sel a b
      only D each k p = elim (h.only D each_below k p) [
        | inl x ↦ inl x
        | inr x ↦ inr (sub p x.0, (x.1.0, omega (arith, x.1.1, lower), x.1.2, x.1.3))
      ]
        where
          each_below : EachPlace group (λ p. IsClosed j (first + p) u (D p) × (D p t ≡ true))
          each_below = grind (arith, in_source)

-- keys of later sites are as they were, and so is all at other places
module _ (j : JobView) (first : ℕ) (u : Option ℕ) (s : ℕ) (sel : List ℕ) (a b : List LaneView) (h : IsGrownOver j first u s sel a b) where
  changed : (k p : ℕ) → IsSameAt (key_count (job_graph j)) a b k p ⊎ ((is_in p sel ≡ true) × ((t : ℕ) × (t ≤ s) × (◌≡◌ {A = Bool} true true) × (k ≡ key (job_graph j) t u)))
  changed k p = h.only (λ q t. true) (λ q i. (all_closed j (first + q) u, refl)) k p

  pub other_places : (k p : ℕ) → is_in p sel ≡ false → IsSameAt (key_count (job_graph j)) a b k p
  other_places k p out = elim (changed k p) [ inl x ↦ x | inr x ↦ absurd (cc (out, x.0)) ]

  pub later_keys : (r p : ℕ) → s < r → r < length (graph_sites (job_graph j)) → IsSameAt (key_count (job_graph j)) a b (key (job_graph j) r u) p
  later_keys r p later inside = elim (changed (key (job_graph j) r u) p) [
    | inl x ↦ x
    | inr x ↦ absurd (omega (arith, key_lower (job_graph j) x.1.0 r u u (omega (arith, x.1.1, later)) inside, x.1.3))
  ]

  -- where the sites up to the one that was filled are settled, all that was settled is
  pub settled_all : (left : List ℕ) → EachPlace left (λ p. is_in p sel ≡ true) → IsSettled a sel → IsSettledTo j u s b left → IsSettled b left
  settled_all left sub was now = grind (arith, changed, holds_is)

-- ---- what is left to begin over a block becomes less

-- a sum of which no part becomes more, and one less
less_sum : (xs : List ℕ) (f g : ℕ → ℕ) (p : ℕ) → ((q : ℕ) → g q ≤ f q) → is_in p xs ≡ true → g p < f p → sum_by g xs < sum_by f xs
less_sum [] f g p all among less = cc among
less_sum (q ∷ xs) f g p all among less = go (nat_eq p q) refl among (λ i. less_sum xs f g p all i less)
  where
    go : (b : Bool) → nat_eq p q ≡ b → (b || is_in p xs) ≡ true → (is_in p xs ≡ true → sum_by g xs < sum_by f xs) → sum_by g (q ∷ xs) < sum_by f (q ∷ xs)
    go true e i rest = omega (arith, sum_by-cons f q xs, sum_by-cons g q xs, subst (λ (n : ℕ). g n < f n) ((Decides-eqb p q).0 e) less, sum_by-le-sum_by g f xs all)
    go false e i rest = omega (arith, sum_by-cons f q xs, sum_by-cons g q xs, all q, rest i)

one_less : (b c : Bool) → (b ≡ true → c ≡ true) → cond (not c) 1 0 ≤ cond (not b) 1 0
one_less b c h = grind arith

-- one more was begun
pub less_left : (a b : List LaneView) (k p count : ℕ) → length b ≡ length a → ((k p : ℕ) → begun_at a k p ≡ true → begun_at b k p ≡ true) → k < length a → p < count → begun_at a k p ≡ false → begun_at b k p ≡ true → left_to_begin count b < left_to_begin count a
less_left a b k p count long h there low was now =
    rw long
    (less_sum (range_with_len 0 (length a)) _ _ k (λ i. sum_by-le-sum_by _ _ (range_with_len 0 count) (λ q. one_less (begun_at a i q) (begun_at b i q) (h i q))) (first_in_range (length a) k there)
    (less_sum (range_with_len 0 count) _ _ p (λ q. one_less (begun_at a k q) (begun_at b k q) (h k q)) (first_in_range count p low) (omega (arith, ap {B = ℕ} (λ x. cond (not x) 1 0) was, ap {B = ℕ} (λ x. cond (not x) 1 0) now))))

-- ---- a version that an evaluation meets and that faults gives its fault to the site

module _ {M : Type 0} (k : EntryFault) where
  -- the outcomes are the same, or the former needs something and the latter faults
  abbrev Stands : {A : Type 0} → Outcome M A → Outcome M A → Type 0
  Stands o p = (o ≡ p) ⊎ ((is_need o ≡ true) × (p ≡ Faults k))

  bind_stands : {A B : Type 0} (o o' : Outcome M A) (f h : A → Outcome M B) → Stands o o' → ((a : A) → Stands (f a) (h a)) → Stands (o >>= f) (o' >>= h)
  bind_stands (Gives a) o' f h (inl e) n = subst (λ (x : Outcome M _). Stands (f a) (x >>= h)) e (n a)
  bind_stands o o' f h c n = grind arith

  in_order_stands : (o o' p p' : Outcome M Value) (f : Value → Value → Outcome M Value) → Stands o o' → Stands p p' → Stands (in_order f o p) (in_order f o' p')
  in_order_stands o o' p p' f c e = bind_stands o o' _ _ c (λ v. bind_stands p p' _ _ e (λ w. inl refl))

  operation_stands : (o : BinOp) (l l' p p' : Outcome M Value) → Stands l l' → Stands p p' → Stands (operation o l p) (operation o l' p')
  operation_stands o l l' p p' c e = grind (arith, in_order_stands)

  module _ {C F : Type 0} (look look' : C → Outcome M Value) (call : F → List Value → Outcome M Value) (each : (c : C) → Stands (look c) (look' c)) where
    mutual
      evaluate_stands : (e : Tree C F) → Stands (evaluate look call e) (evaluate look' call e)
      evaluate_stands (Lit z) = inl refl
      evaluate_stands (Truth b) = inl refl
      evaluate_stands (Col c) = each c
      evaluate_stands (Neg a) = bind_stands _ _ _ _ (evaluate_stands a) (λ v. inl refl)
      evaluate_stands (Not a) = bind_stands _ _ _ _ (evaluate_stands a) (λ v. inl refl)
      evaluate_stands (Bin o a b) = operation_stands o _ _ _ _ (evaluate_stands a) (evaluate_stands b)
      evaluate_stands (Cond c a b) = grind (arith, bind_stands, evaluate_stands c, evaluate_stands a, evaluate_stands b)
      evaluate_stands (Pick v i) = in_order_stands _ _ _ _ picked (evaluate_stands v) (evaluate_stands i)
      evaluate_stands (Call f args) = bind_stands _ _ _ _ (evaluate_all_stand args) (λ vs. inl refl)

      evaluate_all_stand : (es : Trees C F) → Stands (evaluate_all look call es) (evaluate_all look' call es)
      evaluate_all_stand End = inl refl
      evaluate_all_stand (More a rest) = bind_stands _ _ _ _ (evaluate_stands a) (λ v. bind_stands _ _ _ _ (evaluate_all_stand rest) (λ vs. inl refl))

needs_fault : {M A : Type 0} (k : EntryFault) (o p : Outcome M A) → Stands k o p → is_need o ≡ true → is_need p ≡ false → p ≡ Faults k
needs_fault k o p h n m = grind arith

fault_of_known : (k : EntryFault) (o : Outcome ⊥ Value) → with_needs {M = ℕ} o ≡ Faults k → o ≡ Faults k
fault_of_known k o e = grind arith

fault_through : (k : EntryFault) (j : JobView) (entry : ℕ) (u : Option ℕ) (t : ℕ) (x : Source) → IsSiteOf t x → site_in {M = ⊥} j entry u t ≡ Faults k → source_value {M = ℕ} (row_of j entry) (site_in j entry u) x ≡ Faults k
fault_through k j entry u t (Source.Cell col) at faults = elim at [ ]
fault_through k j entry u t (Source.Site s) at faults = ap (λ n. site_in {M = ℕ} j entry u n) at ∙ site_known j entry u t ∙ ap with_needs faults
fault_through k j entry u t (Source.Element s i tags) at faults =
    ap (λ o. o >>= tag_element tags i) (ap (λ n. site_in {M = ℕ} j entry u n) at ∙ site_known j entry u t ∙ ap with_needs faults)

module _ (j : JobView) (job : IsJob j) (entry : ℕ) (u : Option ℕ) (s c t : ℕ) where
  -- the site has the fault of the one that gives a version which its evaluation meets
  pub met_fault : (k : EntryFault) → MeetsAt j entry u s c → IsSiteOf t (source_at j u c) → site_in {M = ⊥} j entry u t ≡ Faults k → site_in {M = ⊥} j entry u s ≡ Faults k
  met_fault k met at faults = fault_of_known k (site_in j entry u s) (sym all ∙ needs_fault k _ _ stands met.2 (ap is_need all ∙ false_from_ne_true (is_need (with_needs {M = ℕ} (site_in j entry u s))) (known_never (site_in j entry u s))))
    where
      x : SiteAt
      x = met.0

      known : version_in {M = ℕ} j entry u c ≡ Faults k
      known = fault_through k j entry u t (source_at j u c) at faults

      alone : (d : ℕ) (b : Bool) → nat_eq c d ≡ b → Stands {M = ℕ} k (if b then Needs c else version_in {M = ℕ} j entry u d) (version_in {M = ℕ} j entry u d)
      alone d true e = subst (λ (o : Outcome ℕ Value). Stands {M = ℕ} k (Needs c) o) (sym (ap (λ n. version_in {M = ℕ} j entry u n) (sym ((Decides-eqb c d).0 e)) ∙ known)) (inr (refl, refl))
      alone d false e = inl refl

      stands : Stands k (evaluate (without nat_eq c (version_in {M = ℕ} j entry u)) (call_outcome j.dataset.fns) x.tree) (evaluate (version_in {M = ℕ} j entry u) (call_outcome j.dataset.fns) x.tree)
      stands = evaluate_stands k (without nat_eq c (version_in {M = ℕ} j entry u)) (version_in {M = ℕ} j entry u) (call_outcome j.dataset.fns) (λ d. alone d (nat_eq c d) refl) x.tree

      all : evaluate (version_in {M = ℕ} j entry u) (call_outcome j.dataset.fns) x.tree ≡ with_needs (site_in j entry u s)
      all = whole j job entry u [] (none_held j entry) s x met.1
