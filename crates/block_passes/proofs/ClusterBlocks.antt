-- What a slot reserves stays what it was while a block is tried, and a block that was searched without a fault is taken in.
use Rattle.lemmas.proofs.{◌≡◌, ℕ, List, [], ◌∷◌, length, sym, ◌∙◌, ap, subst, ℤ, if◌then◌else◌, ◌+◌, ◌<◌, ◌≤◌, true, false, All, Option, Some, None, refl, arith, slice_get, inl, inr, zero, suc, ◌-◌, ◌*◌, Bool, map, take, unwrap_or, slice_index_or, count_by, get_or, slice_range, Err, All-from_recursion, All-weaker, AllByRecursion, cases_lt, get_or-map, get_or-take, get_or_past, length-map, false_from_ne_true, range_length, slice_get_within, sum_by-cons, take_at_most, map_length}
use Rattle.rdf_values.specs.{ColType, EachColumn, history, Value, Span}
use Rattle.block_cache.specs.{AreReady, AreUnknown, begun_at, begun_count, CanFill, IsLoaded, IsUnknown, kinds_of, LaneView, room_of, rooms_of, tried_count}
use Rattle.loop_keys.specs.{AreReadable, entry_demands, Held, IsJob, IsRight, job_graph, JobView, key, key_count, keys_in, passes_in, row_of, site_in, source_at, facts_in, job_spans}
use Rattle.graph_numbers.specs.{graph_sites, graph_under, IsBelow, SiteAt, Source, version_count, graph_filters}
use Rattle.block_passes.specs.{after_block, AreDeepEnough, AreLoaded, at_end, at_entry, at_filter, at_pass, block_demands, block_rows, BlockStop, CanSelect, CanServe, CanServeAll, demands_in, entries_from, Found, HaveCells, HaveKinds, IsAmid, IsBefore, IsBegunBlock, IsBlockAnswer, IsBlockOf, IsClear, IsClusterAnswer, IsFilterStep, IsMadeAt, IsOverAll, IsPlan, IsReadyBelow, IsSearchedTo, IsServable, IsStateOf, KeptPlaces, longer, PlanView, span_demands, Spends, StateView, Step}
use Rattle.rdf_model.proofs.Typing.{each_weaker}
use Rattle.graph_numbers.proofs.Closing.{columns_below}
use Rattle.loop_keys.proofs.EvaluateLaws.{accepted_of}
use Rattle.block_cache.proofs.OverLaws.{held_of_lane, lane_held}
use Rattle.block_cache.proofs.Attempts.{can_fill_site}
use Rattle.block_passes.proofs.Demanding.{filter_kind, site_kinds, action_at, all_get, site_there}
use Rattle.loop_keys.proofs.ActionLaws.{can_act}
use Rattle.block_cache.proofs.LaneSteps.{count_none}
use Rattle.expr_lanes.specs.{is_marked}
use Rattle.block_laws.specs.{marked_at, marked_in, row_demands, cluster_demands, first_length, IsFirst, row_elements}
use Rattle.block_laws.proofs.Costs.{marked_within, first_is, block_then_rest, count_goes_on}
use Rattle.loop_keys.proofs.KeyLaws.{few_keys, has_all, keys_of_all}
use Rattle.block_passes.proofs.PlanSteps.{row_in_block}
use Rattle.rdf_model.specs.{first_fault_from, first_of, kinds_in, span_rows, spreads_of}
use Rattle.cluster_tally.specs.{at_begin, block_begin, BlockStage, Holds, HoldsIn, Stage, TallyView}
use Rattle.cluster_tally.proofs.BlockFeeds.{begins_block, ends_block}
use Rattle.loop_keys.proofs.PassNumbers.{pass_of}
use Rattle.block_passes.proofs.Feeding.{filters_many}
use Rattle.block_passes.proofs.Selecting.{filters_made, read_inside}
use Rattle.rdf_values.proofs.Evenly.{cuts_lead}
use Rattle.columns.proofs.BlockSteps.{span_within}
use Rattle.loop_pieces.specs.{cluster_fault}

-- lanes of the same kinds with as much room, and as many numbers, levels and selections
pub state_stays : (j : JobView) (old : StateView) (cells : List (List ℤ)) (lanes : List LaneView) (scratch levels : ℕ) (found : Found) (kept : List KeptPlaces) → IsStateOf j old → length cells ≡ length old.cells → HaveCells old.size cells
    → kinds_of lanes ≡ kinds_of old.lanes → rooms_of lanes ≡ rooms_of old.lanes → scratch ≡ old.scratch → levels ≡ old.levels → length kept ≡ length old.kept
    → IsStateOf j (record { size = old.size; plan = old.plan; rows = old.rows; cells = cells; lanes = lanes; scratch = scratch; levels = levels; found = found; kept = kept })
state_stays j old cells lanes scratch levels found kept h columns room kinds rooms deep high many = record {
  size = h.size;
  least = h.least;
  most = h.most;
  plan = h.plan;
  rows = h.rows;
  cells = columns ∙ h.cells;
  cell_room = room;
  lanes = sym (length-map lanes (λ (l : LaneView). l.kind)) ∙ ap length kinds ∙ length-map old.lanes (λ (l : LaneView). l.kind) ∙ h.lanes;
  kinds = subst (λ (ks : List ColType). HaveKinds (job_graph j) (length (graph_sites (job_graph j))) ks) (sym kinds) h.kinds;
  lane_room = λ i d low. (
      let there : i < length old.lanes = omega (arith, low, length-map lanes room_of, length-map old.lanes room_of, ap length rooms) in
      sym (get_or-map room_of lanes i d 0 low) ∙ ap (λ ns. get_or ns i 0) rooms ∙ get_or-map room_of old.lanes i d 0 there ∙ h.lane_room i d there);
  scratch = subst (λ (n : ℕ). AreDeepEnough (job_graph j) n) (sym deep) h.scratch;
  levels = high ∙ h.levels;
  kept = many ∙ h.kept;
}

-- ---- A block that begins with what a slot reserves.

module _ (count : ℕ) (lanes : List LaneView) (unknown : AreUnknown count lanes) where
  never_begun : (k p : ℕ) → begun_at lanes k p ≡ true → ⊥
  never_begun k p begun = grind (arith, λ (l : LaneView). all_get (IsUnknown count) lanes unknown k l)

  nothing_held : (k p : ℕ) → lane_held (slice_get lanes k) p ≡ Held.Nothing
  nothing_held k p = grind (arith, λ (l : LaneView). all_get (IsUnknown count) lanes unknown k l)

  pub unknown_ready : (j : JobView) (first : ℕ) → length lanes ≡ key_count (job_graph j) → 0 < count → first + count ≤ length j.dataset.rows → AreReady j first count lanes
  unknown_ready j first many some within = record {
    many = many;
    counts = All-weaker (IsUnknown count) (λ (l : LaneView). l.count ≡ count) (λ l u. u.count) lanes unknown;
    some = some;
    within = within;
    sound = λ p low. record {
      each = λ u s inside.
          subst (λ (h : Held). IsRight (site_in j (first + p) u s) h) (sym (held_of_lane (key_count (job_graph j)) lanes p (key (job_graph j) s u) ∙ nothing_held (key (job_graph j) s u) p)) tt;
    };
  }

module _ (j : JobView) (job : IsJob j) (first count : ℕ) (s : StateView) (state : IsStateOf j s) (some : 0 < count) (within : first + count ≤ length j.dataset.rows) (unknown : AreUnknown count s.lanes)
    (unmade : All (λ (k : KeptPlaces). k.limit ≡ None) s.kept) (loaded : AreLoaded j first count s.cells) where
  begun_ready : (p : IsPlan j s.plan) → IsReadyBelow j first count p.chains count s.lanes s.kept
  begun_ready p = record {
    ready = unknown_ready count s.lanes unknown j first state.lanes some within;
    settled = λ q low k begun. absurd (never_begun count s.lanes unknown k q begun);
    kept_are = record {
      many = state.kept ∙ sym p.steps.many;
      each = λ k made m at limit. (let e : None ≡ Some made = sym (all_get (λ (x : KeptPlaces). x.limit ≡ None) s.kept unmade k m at) ∙ limit in cc e);
    };
    within = omega arith;
  }

  source_loaded : (x : Source) → IsLoaded j first count s.cells x
  source_loaded x = grind arith

  -- each site can be filled
  pub can_fill : (u : Option ℕ) (t : ℕ) → t < length (graph_sites (job_graph j)) → CanFill j first u count (kinds_of s.lanes) s.cells s.scratch s.levels t
  can_fill u t inside =
      can_fill_site j job first u count t (kinds_of s.lanes) s.cells s.scratch s.levels (site_kinds (job_graph j) (kinds_of s.lanes) state.kinds)
      (λ n x at. (state.scratch n x at, columns n x at)) (let l = state.levels in omega (arith, inside, l))
    where
      columns : (n : ℕ) (x : SiteAt) → slice_get (graph_sites (job_graph j)) n ≡ Some x → EachColumn (λ c. IsLoaded j first count s.cells (source_at j u c)) x.tree
      columns n x at =
          each_weaker (λ c. (c < version_count j.dataset.columns (history j.script)) × IsBelow (length j.dataset.columns) n (source_at j u c)) _ (λ c below. source_loaded (source_at j u c)) x.tree
          (columns_below j.dataset.fns j.dataset.columns (graph_under (job_graph j) u) (history j.script) (accepted_of j job) n x at)

  select : CanSelect j first count s.plan (kinds_of s.lanes) s.cells s.scratch s.levels
  select = record {
    each = λ k parent site u at. can_fill u site (inside k parent site u at);
    truths = λ k parent site u at. (
        let f = its_step k parent site u at in
        let h = state.kinds site u (inside k parent site u at) in
        h.2 ∙ ap Some (filter_kind j job (longer f.up site u) f.up.sites site refl (state.plan.tried k (longer f.up site u) f.own) h.0 h.1));
  }
    where
      its_step : (k parent site : ℕ) (u : Option ℕ) → slice_get s.plan.steps k ≡ Some (Step.Filter parent site u) → IsFilterStep state.plan.chains k parent site u
      its_step k parent site u at = state.plan.steps.each k (Step.Filter parent site u) at

      inside : (k parent site : ℕ) (u : Option ℕ) → slice_get s.plan.steps k ≡ Some (Step.Filter parent site u) → site < length (graph_sites (job_graph j))
      inside k parent site u at = let f = its_step k parent site u at in site_there j job (longer f.up site u) f.up.sites site refl (state.plan.tried k (longer f.up site u) f.own)

  serve : CanServeAll j first count (kinds_of s.lanes) s.cells s.scratch s.levels
  serve n k inputs u read = each inputs (can_act j job first (omega (arith, some, within)) _ k _ inputs (action_at read) u).inputs
    where
      servable : (x : Source) → IsBelow (length j.dataset.columns) (length (graph_sites (job_graph j))) x → IsServable j first u count (kinds_of s.lanes) s.cells s.scratch s.levels x
      servable x below = grind (arith, can_fill)

      each : (cs : List ℕ) → AreReadable j u cs → AllByRecursion (CanServe j first u count (kinds_of s.lanes) s.cells s.scratch s.levels) cs
      each [] h = tt
      each (c ∷ cs) h = ((h.0.0, servable (source_at j u c) h.0.1), each cs h.1)

  pub is_begun : s.found ≡ record { limit = count; best = None } → IsBegunBlock j first count s
  is_begun found = record { found = found; unknown = unknown; ready = begun_ready; select = select; serve = serve }

-- ---- Over a block of which nothing was known no more evaluations are begun than its entries demand.

abbrev mark : Bool → ℕ
mark b = if b then 1 else 0

abbrev own : List Bool → ℕ
own l = count_by (λ b. b) l

-- all that are marked are among the first
front_counts : (bs : List Bool) (n : ℕ) → ((p : ℕ) → is_marked bs p ≡ true → p < n) → own bs ≤ own (take n bs)
front_counts [] n h = let e : own [] ≡ 0 = refl in omega (arith, e)
front_counts (b ∷ bs) zero h = let e = count_none (b ∷ bs) (λ p. false_from_ne_true (is_marked (b ∷ bs) p) (λ q. let l = h p q in omega (arith, l))) in omega (arith, e)
front_counts (b ∷ bs) (suc n) h =
    let a = sum_by-cons mark b bs in let c = sum_by-cons mark b (take n bs) in
    let r = front_counts bs n (λ p q. (let l = h (suc p) q in omega (arith, l))) in omega (arith, a, c, r)

taken_mark : (bs : List Bool) (n p : ℕ) → is_marked (take n bs) p ≡ true → is_marked bs p ≡ true
taken_mark bs n p e = grind (arith, cases_lt, get_or-take, get_or_past, take_at_most)

-- ---- of all lanes the places of a block

module _ (count : ℕ) where
  abbrev front : LaneView → List Bool
  front l = take count l.tried

  fronts : (lanes : List LaneView) → ((k p : ℕ) → begun_at lanes k p ≡ true → p < count) → begun_count lanes ≤ marked_in (map front lanes)
  fronts [] h = let e : begun_count [] ≡ 0 = refl in omega (arith, e)
  fronts (l ∷ ls) h =
      let a : begun_count (l ∷ ls) ≡ own l.tried + begun_count ls = sum_by-cons tried_count l ls in
      let b : marked_in (front l ∷ map front ls) ≡ own (front l) + marked_in (map front ls) = sum_by-cons own (front l) (map front ls) in
      let c = front_counts l.tried count (h 0) in
      let r = fronts ls (λ k p e. h (suc k) p e) in omega (arith, a, b, c, r)

  short_fronts : (n : ℕ) → count ≤ n → (lanes : List LaneView) → AllByRecursion (λ (l : List Bool). length l ≤ n) (map front lanes)
  short_fronts n le [] = tt
  short_fronts n le (l ∷ ls) = (omega (arith, take_at_most count l.tried, le), short_fronts n le ls)

  one : (b d : Bool) → (b ≡ true → d ≡ true) → mark b ≤ mark d
  one b d f = grind arith

  -- the keys that were begun at a place are within a set
  few_at : (T : ℕ → Bool) (i base : ℕ) (lanes : List LaneView) → ((k : ℕ) → begun_at lanes k i ≡ true → T (base + k) ≡ true) → marked_at (map front lanes) i ≤ keys_in T base (length lanes)
  few_at T i base [] h = let e : marked_at [] i ≡ 0 = refl in omega (arith, e)
  few_at T i base (l ∷ ls) h =
      let a : marked_at (front l ∷ map front ls) i ≡ mark (is_marked (front l) i) + marked_at (map front ls) i = sum_by-cons (λ (x : List Bool). mark (slice_index_or x i false)) (front l) (map front ls) in
      let b = few_at T i (suc base) ls (λ k q. (let e : suc base + k ≡ base + suc k = omega arith in ap T e ∙ h (suc k) q)) in
      let c : mark (is_marked (front l) i) ≤ (if T base then 1 else 0) = one (is_marked (front l) i) (T base) (λ q. (let e : base ≡ base + 0 = omega arith in ap T e ∙ h 0 (taken_mark l.tried count i q))) in
      omega (arith, a, b, c)

-- ---- what the entries demand

module _ (j : JobView) (first count : ℕ) (before after : List LaneView) (start end : ℕ) (within : first + count ≤ length j.dataset.rows) (unknown : AreUnknown count before) (spends : Spends j first count before after start end) where
  newly : (k p : ℕ) → begun_at after k p ≡ true → (p < count) × (keys_of_all j (first + p) k ≡ true)
  newly k p e = elim (spends.only (λ q. keys_of_all j (first + q)) (λ q lt. has_all j (first + q)) k p e) [
    | inl h ↦ absurd (never_begun count before unknown k p h)
    | inr h ↦ h
  ]

  abbrev rows : List (List Value)
  rows = slice_range j.dataset.rows first (first + count)

  long : length rows ≡ count
  long = range_length j.dataset.rows first (first + count) (omega arith) within ∙ (let e : first + count - first ≡ count = omega arith in e)

  row_few : (i : ℕ) (row : List Value) → slice_get rows i ≡ Some row → marked_at (map (front count) after) i ≤ row_demands j.dataset (passes_in j) row
  row_few i row here =
      let low = slice_get_within rows i row here in
      let l = long in
      let same : row_of j (first + i) ≡ row = ap (λ o. unwrap_or o []) (sym (row_in_block j.dataset.rows first (first + count) i (omega (arith, low, l))) ∙ here) in
      let a = few_at count (keys_of_all j (first + i)) i 0 after (λ k q. (let e : 0 + k ≡ k = omega arith in ap (keys_of_all j (first + i)) e ∙ (newly k i q).1)) in
      let b = few_keys j (first + i) (length after) in
      let c : entry_demands j (first + i) ≡ row_demands j.dataset (passes_in j) row = ap (row_demands j.dataset (passes_in j)) same in
      omega (arith, a, b, c)

  -- at most two evaluations were made for each pair that is demanded
  pub spent_few : end ≤ start + 2 * block_demands j (entries_from first count)
  spent_few =
      let a = fronts count after (λ k p e. (newly k p e).0) in
      let l = long in
      let b : marked_in (map (front count) after) ≤ block_demands j (entries_from first count) =
      marked_within (map (front count) after) rows (row_demands j.dataset (passes_in j))
      (All-from_recursion (λ (x : List Bool). length x ≤ length rows) (map (front count) after) (short_fronts count (length rows) (omega (arith, l)) after)) row_few in
      let c = spends.cost in omega (arith, a, b, c)

-- ---- the search

module _ (j : JobView) (job : IsJob j) (first count : ℕ) (plan : PlanView) (p : IsPlan j plan) (lanes : List LaneView) (kept : List KeptPlaces) (s : Found)
    (h : IsSearchedTo j first count plan p.chains (length (passes_in j)) lanes kept s) (none : s.best ≡ None) where
  whole : s.limit ≡ count
  whole = h.searched.whole none

  ready : IsReadyBelow j first count p.chains count lanes kept
  ready = subst (λ (n : ℕ). IsReadyBelow j first count p.chains n lanes kept) whole h.ready

  -- what was made is over all of the block
  over : (k : ℕ) → IsMadeAt count kept k → IsOverAll count kept k
  over k is m at =
      let w = is m at in
      let under = (ready.kept_are.each k w.0 m at w.1).under in
      let le = w.2 in
      let same : w.0 ≡ count = omega (arith, under, le) in w.1 ∙ ap Some same

  pub searched_clear : IsClear j first count p.chains plan lanes kept
  searched_clear = record {
    ready = ready.ready;
    countable = record {
      kept_are = ready.kept_are;
      above = λ f x named its at. over named.above (filters_made j job count plan p kept h.made f x its named at).0;
      own = λ f x named its at. over named.own (filters_made j job count plan p kept h.made f x its named at).1;
    };
    clear = λ n q inside lt. (let w = whole in h.searched.clear q n (omega (arith, lt, w)) inside);
    read = λ n m r k of q lt passed. (let w = whole in h.read n (slice_get_within (passes_in j) n _ (pass_of j n m of.its_pass r of.its_result)) m r k of q (omega (arith, lt, w)) passed);
    over = λ n k inputs u own last its. over last ((h.made n (read_inside j n k inputs u own)).action k inputs u own last its);
  }

-- ---- the stages of a tally

module _ (j : JobView) (first count cluster : ℕ) (watched : List ℕ) (s : Stage) (old : TallyView) (before : IsBefore j watched s cluster (entries_from first count) old) where
  abbrev pub begun : BlockStage
  begun = block_begin s count

  pub begun_amid : IsAmid j first count begun
  begun_amid = (subst (λ (c : ℕ). IsBlockOf j c s.entries (entries_from first count)) (sym before.its_cluster) before.next, refl)

  pub begun_holds : HoldsIn (facts_in j) watched begun old
  begun_holds = begins_block (facts_in j) watched s old count before.no_pass before.no_filter before.holds

  -- all passes were fed, and all filters counted
  abbrev pub all_fed : BlockStage
  all_fed = at_pass begun (length (kinds_in (passes_in j)))

  pub all_taken : (now : TallyView) → HoldsIn (facts_in j) watched (at_filter all_fed (length (graph_filters (job_graph j)))) now → Holds (facts_in j) watched (after_block s (entries_from first count)) now
  all_taken now h =
      let e : count ≡ first + count - first = omega arith in
      subst (λ (n : ℕ). Holds (facts_in j) watched (at_entry s.done s.cluster (s.entries + n)) now) e
      (ends_block (facts_in j) watched (at_filter all_fed (length (graph_filters (job_graph j)))) now refl (filters_many j first count) h)

-- ---- The blocks of a cluster, one after the other.

-- what is known before the block from an entry on: of the tally, of the faults and of the evaluations so far
pub record IsAtBlock (j : JobView) (cluster size keys : ℕ) (span : Span) (first : TallyView) (start lo : ℕ) (tally : TallyView) (steps : ℕ) : Type 0 where
  pub holds : (watched done : List ℕ) → Holds (facts_in j) watched (at_begin done cluster) first → Holds (facts_in j) watched (at_entry done cluster (lo - span.lo)) tally
  pub fault : cluster_fault j.dataset (job_spans j) (passes_in j) cluster ≡ first_fault_from j.dataset lo (slice_range j.dataset.rows lo span.hi) (passes_in j)
  pub cost : steps + 2 * cluster_demands j.dataset (passes_in j) size keys lo span.hi ≤ start + 2 * cluster_demands j.dataset (passes_in j) size keys span.lo span.hi
  pub from : span.lo ≤ lo
  pub to : lo ≤ span.hi

module _ (j : JobView) (job : IsJob j) (cluster size keys : ℕ) (some : 1 ≤ size) (span : Span) (its : slice_get (job_spans j) cluster ≡ Some span) where
  bounds : (0 ≤ span.lo) × (span.lo < span.hi) × (span.hi ≤ j.cuts.entries)
  bounds = span_within (job_spans j) 0 j.cuts.entries cluster span (cuts_lead j.cuts.entries j.cuts.size j.cuts.marks) its

  pub ends_within : span.hi ≤ length j.dataset.rows
  ends_within = let b = bounds.2 in let e = job.cuts in omega (arith, b, e)

  abbrev all_demands : ℕ → ℕ
  all_demands lo = cluster_demands j.dataset (passes_in j) size keys lo span.hi

  pub at_first : (first : TallyView) (start : ℕ) → IsAtBlock j cluster size keys span first start span.lo first start
  at_first first start = grind (arith, bounds)

  module _ (first : TallyView) (start lo : ℕ) (tally : TallyView) (steps : ℕ) (at : IsAtBlock j cluster size keys span first start lo tally steps) (lt : lo < span.hi)
      (hi : ℕ) (is : hi ≡ lo + first_length size 4194304 (map (row_elements keys) (slice_range j.dataset.rows lo span.hi))) where
    abbrev b : Span
    b = record { lo = lo; hi = hi }

    rows_left : length (map (row_elements keys) (slice_range j.dataset.rows lo span.hi)) ≡ span.hi - lo
    rows_left = map_length (row_elements keys) (slice_range j.dataset.rows lo span.hi) ∙ range_length j.dataset.rows lo span.hi (omega (arith, lt)) ends_within

    first_block : IsFirst size 4194304 (map (row_elements keys) (slice_range j.dataset.rows lo span.hi)) (first_length size 4194304 (map (row_elements keys) (slice_range j.dataset.rows lo span.hi)))
    first_block = first_is size 4194304 (map (row_elements keys) (slice_range j.dataset.rows lo span.hi)) some (let l = rows_left in omega (arith, l, lt))

    pub has_entry : lo < hi
    has_entry = let s = first_block.some in omega (arith, s, is)

    pub within : hi ≤ span.hi
    within = let w = first_block.within in let l = rows_left in omega (arith, w, l, is, lt)

    pub short : hi ≤ lo + size
    short = let s = first_block.small in omega (arith, s, is)

    pub before : (watched done : List ℕ) → Holds (facts_in j) watched (at_begin done cluster) first → IsBefore j watched (at_entry done cluster (lo - span.lo)) cluster b tally
    before watched done h = record {
      holds = at.holds watched done h;
      its_cluster = refl;
      next = record { span = span; its_span = its; is = (let f = at.from in omega (arith, f)); some = has_entry; within = within; inside = ends_within };
      no_pass = refl;
      no_filter = refl;
    }

    rest_fault : first_fault_from j.dataset lo (slice_range j.dataset.rows lo span.hi) (passes_in j)
        ≡ first_of (first_fault_from j.dataset lo (block_rows j b) (passes_in j)) (first_fault_from j.dataset hi (slice_range j.dataset.rows hi span.hi) (passes_in j))
    rest_fault = block_then_rest j.dataset j.dataset.rows (passes_in j) lo hi span.hi (let m = has_entry in omega (arith, m)) within ends_within

    -- the block has no fault, and was taken in
    pub at_next : (now : TallyView) (last : ℕ)
        → ((watched done : List ℕ) → IsBefore j watched (at_entry done cluster (lo - span.lo)) cluster b tally → Holds (facts_in j) watched (after_block (at_entry done cluster (lo - span.lo)) b) now)
        → first_fault_from j.dataset lo (block_rows j b) (passes_in j) ≡ None → last ≤ steps + 2 * block_demands j b → IsAtBlock j cluster size keys span first start hi now last
    at_next now last holds none bound = record {
      holds = λ watched done h. (
          let f = at.from in
          let m = has_entry in
          let e : lo - span.lo + (hi - lo) ≡ hi - span.lo = omega (arith, f, m) in
          subst (λ (n : ℕ). Holds (facts_in j) watched (at_entry done cluster n) now) e (holds watched done (before watched done h)));
      fault = at.fault ∙ rest_fault ∙ ap (λ o. first_of o (first_fault_from j.dataset hi (slice_range j.dataset.rows hi span.hi) (passes_in j))) none;
      cost = (let c = (count_goes_on j.dataset (passes_in j) size keys lo hi span.hi lt ends_within is within).1 lo none in let a = at.cost in omega (arith, c, a, bound));
      from = (let f = at.from in let m = has_entry in omega (arith, f, m));
      to = within;
    }

    -- it stops the cluster
    pub cost_here : (last : ℕ) → last ≤ steps + 2 * block_demands j b → last ≤ start + 2 * span_demands j size keys cluster
    cost_here last bound =
        let e : span_demands j size keys cluster ≡ all_demands span.lo = ap (demands_in j size keys) its in
        let c = (count_goes_on j.dataset (passes_in j) size keys lo hi span.hi lt ends_within is within).2 in let a = at.cost in omega (arith, c, a, e, bound)

    pub answer_here : (why : BlockStop) → IsBlockAnswer j b (Err why) → IsClusterAnswer j cluster (Err why)
    answer_here why h = grind (arith, rest_fault)

  -- ---- the end

  module _ (first : TallyView) (start lo : ℕ) (tally : TallyView) (steps : ℕ) (at : IsAtBlock j cluster size keys span first start lo tally steps) (end : span.hi ≤ lo) where
    pub holds_all : (watched done : List ℕ) → Holds (facts_in j) watched (at_begin done cluster) first → Holds (facts_in j) watched (at_end (facts_in j) done cluster) tally
    holds_all watched done h =
        let all_rows : lo - span.lo ≡ length (span_rows (map (spreads_of j.dataset (passes_in j)) j.dataset.rows) (slice_get (job_spans j) cluster)) = grind (arith, at.to, ends_within, length-map, range_length) in
        subst (λ (n : ℕ). Holds (facts_in j) watched (at_entry done cluster n) tally) all_rows (at.holds watched done h)

-- the block begins at an entry, and has so many
pub as_entries : (b : Span) → b.lo < b.hi → entries_from b.lo (b.hi - b.lo) ≡ b
as_entries b lt = let e : b.lo + (b.hi - b.lo) ≡ b.hi = omega (arith, lt) in λ i. record { lo = b.lo; hi = e i }
