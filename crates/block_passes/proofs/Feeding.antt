-- What a block feeds to a pass, what it does at a named filter, and that its batches are that.
use Rattle.lemmas.proofs.{◌≡◌, ℕ, zero, suc, ◌+◌, ◌<◌, ◌≤◌, Bool, true, false, cond, List, [], ◌∷◌, ◌++◌, length, length-drop, map, take, drop, Option, None, Some, refl, sym, ◌∙◌, ap, subst, arith, slice_get, unwrap_or, if◌then◌else◌, get_or, count_by, flat_map, slice_range, filter, ◌||◌, nat_eq, All, OnErr, Result, MatchOption, length-map, mapped_at, range_length, range_with_len, slice_get-get_or, something_at, sum_by-cons, Decides-eqb, Decides-ltb, length-range_with_len, or_true, same_Some}
use Rattle.block_passes.proofs.PlanSteps.{last_inside, get_dropped, row_in_block, through_more, last_through, flat_filtered, flat_first, over_lowers, in_chosen}
use Rattle.expr_lanes.proofs.Composed.{is_in_at, below_range, filter_alike, filter_all, filter_short}
use Rattle.rdf_values.specs.{ActionKind, Booking, EntryFault, feed_fault, history, Item, named_before, Pass, Span, spread, Value, Memory}
use Rattle.rdf_model.specs.{◌>>=◌, action_outcome, Entry, fault_in, feed_outcome, filter_reach, for_all, Gives, if_there, is_covered, is_passed, is_reached, is_true, items_fed, items_of, list_at, Outcome, Reach, reaches_of, Skip, span_rows, spreads_of, kinds_in}
use Rattle.rdf_model.specs.declared.loop_facts.Reach.TheVariants.{Stopped}
use Rattle.graph_numbers.specs.{action_numbers, booking_numbers, FilterAt, graph_filters, graph_under, Pass as NumberedPass, ResultAt, through_sites}
use Rattle.cluster_tally.specs.{block_items, block_reaches, BlockStage, CanNoteCounts, counted, HoldsIn, IsWithin, TallyView, pass_done}
use Rattle.loop_keys.specs.{actions_before, covered_in, facts_in, IsJob, job_graph, job_spans, JobView, pass_outcome, passes_in, row_of, site_in, version_in, IsActionBooking, IsActionPass, IsNoTake}
use Rattle.loop_keys.proofs.PassNumbers.{stopped_answer, tried_answer, cover_at, covered_count, at_place, covered_reach, uncovered_reach, pass_answer, pass_of, all_actions}
use Rattle.loop_keys.proofs.ActionLaws.{row_there}
use Rattle.block_passes.specs.{AreAtHand, AreCountable, AreKept, AreLanesOf, at_filter, at_pass, CanFeedAny, Chain, feeding_fault, Found, IsActionOf, IsAmid, IsClear, IsLast, IsMade, IsNamed, IsNarrowed, IsPlan, IsReadOf, IsServedTo, IsSettledAt, KeptPlaces, NamedSteps, noted, of_batch, PlanView, through_chain, chain_at}
use Rattle.loop_pieces.specs.{Counts}
use Rattle.actions.specs.{Batch, batch_items, fault_or_later, first_fault_in, HasValues, IsTake, BatchFault, places_of, Sources, SuitsAt, values_at}
use Rattle.expr_lanes.specs.{AreRising, EachPlace, is_in}
use Rattle.block_cache.specs.{AreReady, fault_before, fault_over, LaneView, PlaceFault}
use Rattle.block_passes.proofs.Demanding.{all_get}
use Rattle.block_passes.proofs.Selecting.{read_inside, placed, unfed_none}

-- ---- outcomes

given_items : (k : ActionKind) (o : Outcome ⊥ Bool) (a : Outcome ⊥ (List Value)) (vs : List Value) → is_true o ≡ true → a ≡ Gives vs → feed_fault k vs ≡ None
    → items_fed k (o >>= λ passed. if passed then a >>= feed_outcome k else Gives Skip) ≡ spread k vs
given_items k o a vs t e f = grind arith

none_items : (k : ActionKind) (o : Outcome ⊥ Bool) (x : Outcome ⊥ Entry) → is_true o ≡ false → items_fed k (o >>= λ passed. if passed then x else Gives Skip) ≡ []
none_items k o x t = grind arith

count_singles : {A : Type 0} (t : A → Bool) (h : ℕ → A) (xs : List ℕ) → count_by t (flat_map (λ q. h q ∷ []) xs) ≡ length (filter (λ q. t (h q)) xs)
count_singles t h [] = refl
count_singles t h (x ∷ xs) = sum_by-cons (λ y. cond (t y) 1 0) (h x) (flat_map (λ q. h q ∷ []) xs) ∙ ap (λ n. cond (t (h x)) 1 0 + n) (count_singles t h xs) ∙ one (t (h x))
  where
    one : (b : Bool) → cond b 1 0 + length (filter (λ q. t (h q)) xs) ≡ length (cond b (x ∷ filter (λ q. t (h q)) xs) (filter (λ q. t (h q)) xs))
    one b = grind arith

-- ---- a block

module _ (j : JobView) (first count : ℕ) (s : BlockStage) (amid : IsAmid j first count s) where
  abbrev span : Span
  span = amid.0.span

  its_within : span.lo + s.entries + s.block ≤ span.hi
  its_within = omega (arith, amid.0.is, amid.0.within, amid.1)

  -- the entry at a place
  abbrev pub entry_at : ℕ → ℕ
  entry_at q = first + q

  pub row_here : (q : ℕ) → q < s.block → slice_get j.dataset.rows (entry_at q) ≡ Some (row_of j (entry_at q))
  row_here q lt =
      let r = row_there j.dataset.rows (entry_at q) (omega (arith, lt, amid.0.within, amid.1, amid.0.inside)) in r.1 ∙ ap Some (ap (λ o. unwrap_or o []) (sym r.1))

  abbrev rows_left : {A : Type 0} → (List Value → A) → List A
  rows_left f = drop s.entries (span_rows (map f j.dataset.rows) (slice_get (job_spans j) s.cluster))

  left_is : {A : Type 0} (f : List Value → A) → rows_left f ≡ drop s.entries (slice_range (map f j.dataset.rows) span.lo span.hi)
  left_is f = ap (λ o. drop s.entries (span_rows (map f j.dataset.rows) o)) amid.0.its_span

  left_at : {A : Type 0} (f : List Value → A) (q : ℕ) (x : A) → q < s.block → slice_get (rows_left f) q ≡ Some x → x ≡ f (row_of j (entry_at q))
  left_at f q x lt h = grind (arith, same_Some, left_is, get_dropped, row_in_block, mapped_at, row_here, its_within, amid.0.is, amid.0.inside)

  left_long : {A : Type 0} (f : List Value → A) → s.block ≤ length (rows_left f)
  left_long f = grind (arith, left_is, length-map, length-drop, range_length, its_within, amid.0.inside)

  block_flat : {A B : Type 0} (f : List Value → A) (h : A → List B) → flat_map h (take s.block (rows_left f)) ≡ flat_map (λ q. h (f (row_of j (entry_at q)))) (range_with_len 0 s.block)
  block_flat f h = flat_first h (λ q. h (f (row_of j (entry_at q)))) s.block (rows_left f) (left_long f) (λ i x lt q. ap h (left_at f i x lt q))

  -- ---- an action's pass

  module _ (job : IsJob j) (n : ℕ) (m : NumberedPass) (r : ResultAt) (k : ActionKind) (of : IsActionOf j n m r k) where
    abbrev its_pass : Pass
    its_pass = record { result = r.booked; under = graph_under (job_graph j) m.variation }

    there_is : slice_get (passes_in j) n ≡ Some its_pass
    there_is = pass_of j n m of.its_pass r of.its_result

    -- whether the place passes the filters
    abbrev pub passes : ℕ → Bool
    passes q = is_true (through_sites (site_in j (entry_at q) m.variation) r.filters)

    abbrev items_at : ℕ → List Item
    items_at q = items_of j.dataset k of.at (graph_under (job_graph j) m.variation) (row_of j (entry_at q))

    its_items : (q : ℕ) → list_at (spreads_of j.dataset (passes_in j) (row_of j (entry_at q))) (actions_before j n) ≡ items_at q
    its_items q = ap (λ (o : Option (List Item)). elim o [ None ↦ [] | Some ys ↦ ys ])
        (at_place j.dataset (row_of j (entry_at q)) n (passes_in j) its_pass k of.at there_is of.booking).1

    by_numbers : (q : ℕ) → q < s.block → items_at q ≡ items_fed k (action_numbers (site_in j (entry_at q) m.variation) (version_in j (entry_at q) m.variation) k r)
    by_numbers q lt =
        let outcome : pass_outcome j (entry_at q) n ≡ action_outcome j.dataset.fns j.dataset.columns (row_of j (entry_at q)) k of.at (graph_under (job_graph j) m.variation) = grind (arith, row_here, there_is) in
        ap (items_fed k)
        (sym outcome ∙ pass_answer j job (entry_at q) (row_of j (entry_at q)) (row_here q lt) n m of.its_pass r of.its_result
        ∙ ap (λ (c : Booking). booking_numbers {M = ⊥} (site_in j (entry_at q) None) (site_in j (entry_at q) m.variation) (version_in j (entry_at q) m.variation) (graph_filters (job_graph j)) r c) of.booking)

    -- the block feeds the values of the places that pass the filters
    pub block_fed : (values : ℕ → List Value)
        → ((q : ℕ) → q < s.block → passes q ≡ true → (for_all (version_in {M = ⊥} j (entry_at q) m.variation) r.inputs ≡ Gives (values q)) × (feed_fault k (values q) ≡ None))
        → flat_map (λ q. spread k (values q)) (filter passes (range_with_len 0 s.block)) ≡ block_items (facts_in j) s (actions_before j n)
    block_fed values h =
        sym (block_flat (spreads_of j.dataset (passes_in j)) (λ row. list_at row (actions_before j n))
        ∙ (λ i. flat_map (λ q. its_items q i) (range_with_len 0 s.block))
        ∙ flat_filtered items_at (λ q. spread k (values q)) passes (range_with_len 0 s.block)
        (λ q i. (
        let lt = below_range s.block q i in (
          (λ t. (let w = h q lt t in by_numbers q lt ∙ given_items k (through_sites (site_in j (entry_at q) m.variation) r.filters) (for_all (version_in j (entry_at q) m.variation) r.inputs) (values q) t w.0 w.1)),
          (λ t. by_numbers q lt ∙ none_items k (through_sites (site_in j (entry_at q) m.variation) r.filters) _ t),
        ))))

  -- ---- a named filter

  module _ (job : IsJob j) (f : ℕ) (x : FilterAt) (here : slice_get (graph_filters (job_graph j)) f ≡ Some x) where
    says : (b : Bool) → slice_get (covered_in j) f ≡ Some b → is_covered (passes_in j) x.at ≡ b
    says b h = same_Some (is_covered (passes_in j) x.at) b (sym (cover_at j job f x here) ∙ h)

    abbrev reach_at : ℕ → Option Reach
    reach_at q = slice_get (reaches_of j.dataset (passes_in j) (named_before (history j.script)) (row_of j (entry_at q))) f

    reaches_are : (h : ℕ → Reach) → ((q : ℕ) → q < s.block → reach_at q ≡ Some (h q)) → block_reaches (facts_in j) s f ≡ flat_map (λ q. h q ∷ []) (range_with_len 0 s.block)
    reaches_are h e =
        flat_first (λ row. if_there (slice_get row f)) (λ q. h q ∷ []) s.block (rows_left (reaches_of j.dataset (passes_in j) (named_before (history j.script)))) (left_long (reaches_of j.dataset (passes_in j) (named_before (history j.script))))
        (λ i y lt q. ap (λ row. if_there (slice_get row f)) (left_at (reaches_of j.dataset (passes_in j) (named_before (history j.script))) i y lt q) ∙ ap if_there (e i lt))

    -- no place reaches one that no report covers
    pub uncovered_counts : slice_get (covered_in j) f ≡ Some false → counted (block_reaches (facts_in j) s f) ≡ record { all = 0; pass = 0 }
    uncovered_counts h =
        let e = reaches_are (λ q. Stopped) (λ q lt. uncovered_reach j (entry_at q) (row_of j (entry_at q)) (row_here q lt) f x here (says false h)) in
        ap counted e ∙ (λ i. record { all = none is_reached refl s.block 0 i; pass = none is_passed refl s.block 0 i })
      where
        none : (t : Reach → Bool) → t Stopped ≡ false → (n a : ℕ) → count_by t (flat_map (λ (q : ℕ). Stopped ∷ []) (range_with_len a n)) ≡ 0
        none t e zero a = refl
        none t e (suc n) a = sum_by-cons (λ y. cond (t y) 1 0) Stopped (flat_map (λ (q : ℕ). Stopped ∷ []) (range_with_len (a + 1) n)) ∙ (λ i. cond (e i) 1 0 + none t e n (a + 1) i)

    module _ (covered : slice_get (covered_in j) f ≡ Some true) (up : List ℕ) (own : ℕ) (split : x.sites ≡ up ++ own ∷ []) where
      abbrev above : ℕ → Outcome ⊥ Bool
      above q = through_sites (site_in j (entry_at q) None) up

      abbrev all : ℕ → Outcome ⊥ Bool
      all q = through_sites (site_in j (entry_at q) None) (up ++ own ∷ [])

      abbrev its_reach : ℕ → Reach
      its_reach q = filter_reach j.dataset (row_of j (entry_at q)) x.at

      -- what the filter does at a place without a fault
      reached : (q : ℕ) → q < s.block → fault_in (all q) ≡ None → (is_reached (its_reach q) ≡ is_true (above q)) × (is_passed (its_reach q) ≡ is_true (all q))
      reached q lt clear = grind (arith, through_more, stopped_answer, tried_answer)

      -- the counts are the sizes of two selections
      pub covered_counts : ((q : ℕ) → q < s.block → fault_in (all q) ≡ None)
          → counted (block_reaches (facts_in j) s f) ≡ record { all = length (filter (λ q. is_true (above q)) (range_with_len 0 s.block)); pass = length (filter (λ q. is_true (all q)) (range_with_len 0 s.block)) }
      covered_counts clear =
          let e = reaches_are its_reach (λ q lt. covered_reach j (entry_at q) (row_of j (entry_at q)) (row_here q lt) f x here (says true covered) (its_reach q) refl) in
          ap counted e ∙ (λ i. record { all = size is_reached (λ q. is_true (above q)) (λ q lt. (reached q lt (clear q lt)).0) i; pass = size is_passed (λ q. is_true (all q)) (λ q lt. (reached q lt (clear q lt)).1) i })
        where
          size : (t : Reach → Bool) (g : ℕ → Bool) → ((q : ℕ) → q < s.block → t (its_reach q) ≡ g q) → count_by t (flat_map (λ q. its_reach q ∷ []) (range_with_len 0 s.block)) ≡ length (filter g (range_with_len 0 s.block))
          size t g h = count_singles t its_reach (range_with_len 0 s.block) ∙ ap length (filter_alike (λ q. t (its_reach q)) g (range_with_len 0 s.block) (λ q i. h q (below_range s.block q i)))

-- ---- The counts of named filters are sizes of selections.

module _ (j : JobView) (first count : ℕ) (s : BlockStage) (amid : IsAmid j first count s) where
  -- the places of a chain that has these sites under nominal or a variation
  module _ (u : Option ℕ) (chains : List Chain) (kept : List KeptPlaces) (are : AreKept j first chains count kept) (sites : List ℕ) (k : ℕ) (last : IsLast chains sites u k) (m : KeptPlaces) (at : slice_get kept k ≡ Some m) (whole : m.limit ≡ Some count) where
    made : IsMade j first (chain_at chains k) count count m.places
    made = are.each k count m at whole

    alike : (e : ℕ) → through_chain j e (chain_at chains k) ≡ through_sites (site_in j e u) sites
    alike = last_through j chains sites u k last

    pub its_places : m.places ≡ filter (λ q. is_true (through_sites (site_in j (first + q) u) sites)) (range_with_len 0 s.block)
    its_places = made.is ∙ (λ i. filter (λ p. is_true (alike (first + p) i)) (range_with_len 0 (sym amid.1 i)))

    pub its_clear : (q : ℕ) → q < s.block → fault_in (through_sites (site_in j (first + q) u) sites) ≡ None
    its_clear q low = sym (ap fault_in (alike (first + q))) ∙ made.clear q (subst (λ (n : ℕ). q < n) amid.1 low)

-- ---- by the plan

module _ (j : JobView) (plan : PlanView) (p : IsPlan j plan) (f : ℕ) (inside : f < length (graph_filters (job_graph j))) where
  abbrev pub named_at : (x : FilterAt) × (slice_get (graph_filters (job_graph j)) f ≡ Some x)
  named_at = something_at (graph_filters (job_graph j)) f inside

  module _ (first count : ℕ) (kept : List KeptPlaces) (can : AreCountable j first count p.chains plan kept) (o : Option NamedSteps) (at : slice_get plan.filters f ≡ Some o) where
    pub no_counts : o ≡ None → (job : IsJob j) (s : BlockStage) → IsAmid j first count s → record { all = 0; pass = 0 } ≡ counted (block_reaches (facts_in j) s f)
    no_counts none job s amid = sym (uncovered_counts j first count s amid job f named_at.0 named_at.1 (p.filters f None (at ∙ ap Some none) named_at.0 named_at.1))

    module _ (named : NamedSteps) (is : o ≡ Some named) where
      its_at : slice_get plan.filters f ≡ Some (Some named)
      its_at = at ∙ ap Some is

      its_steps : (slice_get (covered_in j) f ≡ Some true) × IsNamed p.chains named_at.0 named
      its_steps = p.filters f (Some named) its_at named_at.0 named_at.1

      pub above_there : named.above < length kept
      above_there = last_inside its_steps.1.above can.kept_are.many

      pub own_there : named.own < length kept
      own_there = last_inside its_steps.1.own can.kept_are.many

      pub sizes_counted : (d d' : KeptPlaces) (job : IsJob j) (s : BlockStage) → IsAmid j first count s
          → record { all = length (get_or kept named.above d).places; pass = length (get_or kept named.own d').places } ≡ counted (block_reaches (facts_in j) s f)
      sizes_counted d d' job s amid =
          let h = its_steps.1 in
          let at_above = slice_get-get_or kept named.above d above_there in
          let at_own = slice_get-get_or kept named.own d' own_there in
          let whole = can.own f named_at.0 named named_at.1 its_at _ at_own in
          let own_last : IsLast p.chains (h.up ++ h.site ∷ []) None named.own = subst (λ (l : List ℕ). IsLast p.chains l None named.own) h.sites h.own in
          (λ i. record {
            all = length (its_places j first count s amid None p.chains kept can.kept_are h.up named.above h.above _ at_above (can.above f named_at.0 named named_at.1 its_at _ at_above) i);
            pass = length (its_places j first count s amid None p.chains kept can.kept_are (h.up ++ h.site ∷ []) named.own own_last _ at_own whole i);
          })
          ∙ sym (covered_counts j first count s amid job f named_at.0 named_at.1 its_steps.0 h.up h.site h.sites (its_clear j first count s amid None p.chains kept can.kept_are (h.up ++ h.site ∷ []) named.own own_last _ at_own whole))

-- ---- filter by filter

module _ (j : JobView) (first count : ℕ) where
  -- what a tally that begins at the first filter holds after so many of them
  abbrev pub IsNotedTo : TallyView → ℕ → TallyView → Type 0
  IsNotedTo old n now = (watched : List ℕ) (s : BlockStage) → IsAmid j first count s → s.filters ≡ 0 → HoldsIn (facts_in j) watched s old → HoldsIn (facts_in j) watched (at_filter s n) now

  pub block_within : (s : BlockStage) → IsAmid j first count s → IsWithin (facts_in j) s
  block_within s amid = let within = its_within j first count s amid in grind (arith, length-map, range_length)

  pub filters_many : length (graph_filters (job_graph j)) ≡ length (named_before (history j.script))
  filters_many = sym (covered_count j) ∙ length-map (named_before (history j.script)) (is_covered (passes_in j))

  -- the next filter's counts can be taken in
  pub can_note : (old now : TallyView) (n : ℕ) (c : Counts) → IsNotedTo old n now → n < length (graph_filters (job_graph j)) → ((s : BlockStage) → IsAmid j first count s → c ≡ counted (block_reaches (facts_in j) s n))
      → (watched : List ℕ) (s : BlockStage) → IsAmid j first count s → s.filters ≡ 0 → HoldsIn (facts_in j) watched s old → CanNoteCounts (facts_in j) watched (at_filter s n) now n c
  can_note old now n c noted inside comes watched s amid none holds = record {
    holds = noted watched s amid none holds;
    at_filter = refl;
    inside = (let m = filters_many in omega (arith, inside, m));
    within = block_within (at_filter s n) amid;
    come_to = comes (at_filter s n) amid;
  }

-- ---- places

-- the first places of a block, by their number
pub dense_places : (sel : List ℕ) (n m : ℕ) → sel ≡ range_with_len 0 m → n ≡ length sel → range_with_len 0 n ≡ sel
dense_places sel n m e h = ap (range_with_len 0) (h ∙ ap length e ∙ length-range_with_len 0 m) ∙ sym e

pub all_places : (P : ℕ → Type 0) (ps sel : List ℕ) → ps ≡ sel → EachPlace sel P → All P ps
all_places P ps sel e h = subst (λ (l : List ℕ). All P l) (sym e) (λ i d lt. h (get_or sel i d) (is_in_at sel i d lt))

-- ---- the first fault

before_later : (p : ℕ) (o : Option EntryFault) (r : Option BatchFault) → of_batch (fault_or_later p o r) ≡ fault_before p o (of_batch r)
before_later p o r = grind arith

pub unfed_over : (k : ActionKind) (s : Sources) (f : ℕ → Option EntryFault) (sel : List ℕ) → EachPlace sel (λ p. feed_fault k (values_at s p) ≡ f p) → of_batch (first_fault_in k s sel) ≡ fault_over f sel
unfed_over k s f [] h = refl
unfed_over k s f (p ∷ sel) h =
    before_later p (feed_fault k (values_at s p)) (first_fault_in k s sel)
    ∙ ap (λ o. fault_before p o (of_batch (first_fault_in k s sel))) (h p (ap (λ b. b || is_in p sel) ((Decides-eqb p p).1 refl)))
    ∙ ap (fault_before p (f p)) (unfed_over k s f sel (λ q i. h q (ap (λ b. nat_eq q p || b) i ∙ or_true (nat_eq q p))))

-- ---- it lowers the limit

module _ (j : JobView) (first count : ℕ) (f : ℕ → Option EntryFault) (pass : ℕ) (to now : KeptPlaces) (lanes : List LaneView) (old new : Found) (o : Option PlaceFault)
    (ready : AreReady j first count lanes) (settled : (p : ℕ) → p < old.limit → IsSettledAt lanes p) (rising : AreRising to.places) (inside : EachPlace to.places (λ p. p < old.limit))
    (is : o ≡ fault_over f to.places) (noted_is : new ≡ noted first pass old o) where
  pub part_served : to.limit ≡ Some old.limit → IsNarrowed new.limit old.limit to now → IsServedTo j first count f pass to.places now lanes old new
  part_served made narrowed = grind (arith, over_lowers, filter_all, Decides-ltb)

-- ---- a batch

module _ (k : ActionKind) (s : Sources) (o : ℕ → Outcome ⊥ (List Value)) (sel ps : List ℕ) (e : ps ≡ sel) (are : EachPlace sel (λ p. AreLanesOf (o p) k s p)) where
  pub first_is : (r : Option BatchFault) → r ≡ first_fault_in k s ps → of_batch r ≡ fault_over (λ p. feeding_fault k (o p)) sel
  first_is r h = ap of_batch (h ∙ ap (first_fault_in k s) e) ∙ unfed_over k s (λ p. feeding_fault k (o p)) sel (λ p i. sym (ap (feeding_fault k) (are p i).values))

-- one value that is there can be fed
pub few_fed : (k : ActionKind) (f : ℕ → Outcome ⊥ Value) (cs : List ℕ) → length cs < 2 → feeding_fault k (for_all f cs) ≡ None
few_fed k f [] h = grind arith
few_fed k f (c ∷ []) h = grind arith
few_fed k f (c ∷ d ∷ cs) h = absurd (omega (arith, h))

-- ---- A block's batch is what its places feed to an action's pass.

-- the pass's kind is that of the next one of the loop's actions
kind_at : (j : JobView) (n : ℕ) (k : ActionKind) (inputs : List ℕ) (u : Option ℕ) → IsReadOf j n k inputs u → slice_get (kinds_in (passes_in j)) (actions_before j n) ≡ Some k
kind_at j n k inputs u own = (at_place j.dataset [] n (passes_in j) _ k own.action.at (pass_of j n own.numbered own.action.its_pass own.result own.action.its_result) own.action.booking).0

module _ (j : JobView) (job : IsJob j) (first count : ℕ) (pass : ℕ) (k : ActionKind) (inputs : List ℕ) (u : Option ℕ) (own : IsReadOf j pass k inputs u) where
  module _ (plan : PlanView) (p : IsPlan j plan) (last : ℕ) (at : slice_get plan.passes pass ≡ Some last) (lanes : List LaneView) (kept : List KeptPlaces) (h : IsClear j first count p.chains plan lanes kept) where
    last_led : IsLast p.chains own.result.filters u last
    last_led = subst (λ (v : Option ℕ). IsLast p.chains own.result.filters v last) own.its_under (p.passes pass last at own.numbered own.result k own.action)

    pub last_there : last < length kept
    last_there = last_inside last_led h.countable.kept_are.many

    -- ---- what is fed

    module _ (d : KeptPlaces) where
      abbrev sel : KeptPlaces
      sel = get_or kept last d

      sel_at : slice_get kept last ≡ Some sel
      sel_at = slice_get-get_or kept last d last_there

      over_all : sel.limit ≡ Some count
      over_all = h.over pass k inputs u own last at sel sel_at

      passed : (q : ℕ) → is_in q sel.places ≡ true → (q < count) × (is_true (through_sites (site_in j (first + q) own.numbered.variation) own.result.filters) ≡ true)
      passed q i = placed j job first count pass plan p h.ready.within k inputs u own last at kept h.countable.kept_are sel sel_at over_all q i

      pub fed_low : EachPlace sel.places (λ q. q < count)
      fed_low q i = (passed q i).0

      pub fed_hand : EachPlace sel.places (AreAtHand j first lanes u inputs)
      fed_hand q i =
          subst (λ (v : Option ℕ). AreAtHand j first lanes v inputs q) own.its_under
          (subst (λ (cs : List ℕ). AreAtHand j first lanes own.numbered.variation cs q) own.inputs_are (h.read pass own.numbered own.result k own.action q (passed q i).0 (passed q i).1))

      module _ (s : BlockStage) (amid : IsAmid j first count s) where
        abbrev passed_at : ℕ → Bool
        passed_at q = is_true (through_sites (site_in j (first + q) u) own.result.filters)

        sel_is : sel.places ≡ filter passed_at (range_with_len 0 s.block)
        sel_is = its_places j first count s amid u p.chains kept h.countable.kept_are own.result.filters last last_led sel sel_at over_all

        in_sel : (q : ℕ) → q < s.block → passed_at q ≡ true → is_in q sel.places ≡ true
        in_sel q low through = subst (λ (l : List ℕ). is_in q l ≡ true) (sym sel_is) (in_chosen passed_at q s.block low ∙ through)

        -- ---- a batch

        module _ (batch : Batch) (places : places_of batch.places ≡ sel.places)
            (gathered : (q : ℕ) → q < count → is_in q sel.places ≡ true → AreAtHand j first lanes u inputs q →
            AreLanesOf (for_all (version_in {M = ⊥} j (first + q) u) inputs) k batch.sources q) where
          lanes_at : (q : ℕ) → is_in q sel.places ≡ true → AreLanesOf (for_all (version_in {M = ⊥} j (first + q) u) inputs) k batch.sources q
          lanes_at q i = gathered q (fed_low q i) i (fed_hand q i)

          clear_at : (q : ℕ) → is_in q sel.places ≡ true → feed_fault k (values_at batch.sources q) ≡ None
          clear_at q i = ap (feeding_fault k) (sym (lanes_at q i).values) ∙ unfed_none j job first count pass plan p h.ready.within k inputs u own last at q (passed q i).0 (passed q i).1 (h.clear pass q (read_inside j pass k inputs u own) (passed q i).0)

          batch_is : batch_items k batch ≡ block_items (facts_in j) s (actions_before j pass)
          batch_is =
              ap (flat_map (λ q. spread k (values_at batch.sources q))) (places ∙ sel_is)
              ∙ (λ i. flat_map (λ q. spread k (values_at batch.sources q)) (filter (λ q. is_true (through_sites (site_in j (first + q) (sym own.its_under i)) own.result.filters)) (range_with_len 0 s.block)))
              ∙ (block_fed j first count s amid job pass own.numbered own.result k own.action (λ q. values_at batch.sources q)
              (λ q low through. (
              let i = in_sel q low (ap (λ (v : Option ℕ). is_true (through_sites (site_in j (first + q) v) own.result.filters)) (sym own.its_under) ∙ through) in
              ((λ t. for_all (version_in {M = ⊥} j (first + q) (own.its_under t)) (own.inputs_are t)) ∙ (lanes_at q i).values, clear_at q i))))

        -- the tally can be fed each batch of what the action reads
        pub feeds_any : (watched : List ℕ) (place cluster : ℕ) (t : TallyView) → place ≡ actions_before j pass → s.cluster ≡ cluster → s.passes ≡ place → HoldsIn (facts_in j) watched s t
            → CanFeedAny j first count lanes k inputs u sel.places (facts_in j) watched s t place cluster
        feeds_any watched place cluster t is its at_pass holds b of = (
          record {
            holds = holds;
            at_pass = at_pass;
            at_cluster = its;
            within = block_within j first count s amid;
            kind = k;
            its_kind = ap (slice_get (facts_in j).kinds) is ∙ kind_at j pass k inputs u own;
            there = all_places (HasValues b.sources) _ sel.places of.places (λ q i. (lanes_at b of.places of.gathered q i).there);
            suits = all_places (SuitsAt k b.sources) _ sel.places of.places (λ q i. (lanes_at b of.places of.gathered q i).suits);
            no_fault = all_places (λ p. feed_fault k (values_at b.sources p) ≡ None) _ sel.places of.places (clear_at b of.places of.gathered);
            few = (let a = ap (λ (l : List ℕ). length l) (of.places ∙ sel_is) in let b = filter_short passed_at (range_with_len 0 s.block) in let e = length-range_with_len 0 s.block in omega (arith, a, b, e));
            fed = batch_is b of.places of.gathered ∙ ap (block_items (facts_in j) s) (sym is);
          },
          refl,
        )

-- only a Take wants memory
pub only_takes : (k kind : ActionKind) → kind ≡ k → (r : Result (Unit {0}) Memory) → OnErr r (IsTake kind) → OnErr r (IsTake k)
only_takes k kind is r h = subst (λ (x : ActionKind). OnErr r (IsTake x)) is h

-- ---- All action passes of a block are fed, one after the other.

-- a pass that reads what an action reads is an action's
pub read_action : (j : JobView) (n : ℕ) (k : ActionKind) (inputs : List ℕ) (u : Option ℕ) → IsReadOf j n k inputs u → IsActionPass j n
read_action j n k inputs u own =
    subst (λ (o : Option Pass). MatchOption o ⊥ (λ (p : Pass). IsActionBooking p.result.booking)) (sym (pass_of j n own.numbered own.action.its_pass own.result own.action.its_result)) (subst IsActionBooking (sym own.action.booking) tt)

no_take : (k : ActionKind) → IsNoTake k → IsTake k → ⊥
no_take k h take = grind arith

-- no pass of a loop without Takes takes
pub takes_none : (j : JobView) (n : ℕ) (k : ActionKind) (inputs : List ℕ) (u : Option ℕ) → IsReadOf j n k inputs u → All IsNoTake (kinds_in (passes_in j)) → IsTake k → ⊥
takes_none j n k inputs u own none take = no_take k (all_get IsNoTake (kinds_in (passes_in j)) none (actions_before j n) k (kind_at j n k inputs u own)) take

module _ (j : JobView) (first count cluster : ℕ) where
  -- what a tally that begins at the first pass holds after so many of the loop's actions
  abbrev pub IsFedTo : TallyView → ℕ → TallyView → Type 0
  IsFedTo old n now = (watched : List ℕ) (s : BlockStage) → IsAmid j first count s → s.cluster ≡ cluster → s.passes ≡ 0 → HoldsIn (facts_in j) watched s old → HoldsIn (facts_in j) watched (at_pass s n) now

  pub fed_all : (old now : TallyView) (n pass : ℕ) → pass ≡ length (passes_in j) → n ≡ actions_before j pass → IsFedTo old n now → IsFedTo old (length (kinds_in (passes_in j))) now
  fed_all old now n pass e place h watched s amid its none holds = subst (λ (m : ℕ). HoldsIn (facts_in j) watched (at_pass s m) now) (place ∙ all_actions j pass e) (h watched s amid its none holds)

  -- one pass further
  pub one_further : (watched : List ℕ) (s : BlockStage) (t : TallyView) (place : ℕ) → s.passes ≡ place → HoldsIn (facts_in j) watched (pass_done s) t → HoldsIn (facts_in j) watched (at_pass s (place + 1)) t
  one_further watched s t place at h = subst (λ (n : ℕ). HoldsIn (facts_in j) watched (at_pass s (n + 1)) t) at h
