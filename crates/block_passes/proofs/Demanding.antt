-- The sites that a loop tries are there.
use Rattle.lemmas.proofs.{◌≡◌, inl, inr, ℕ, ◌<◌, true, List, [], ◌∷◌, ◌++◌, length, refl, sym, ◌∙◌, ap, subst, append_assoc, Option, Bool, false, None, Some, slice_get, unwrap_or, if◌then◌else◌, All, ◌⊎◌, zero, suc, ◌+◌, Result, Ok, Err, arith, nat_eq, option_map, ◌≤◌, length-append, replicate, IsOk, AllByRecursion, get_or_from_slice_get, recursion_from_All, slice_get_within, append-nil, cases_eq, Decides-eqb, get_or-replicate, kept_at, length-replicate, slice_get-get_or, something_at, each_append, same_Some}
use Rattle.rdf_values.specs.{ActionAt, ActionKind, Booking, fn_names, history, Value, AreAccepted, callee, check_node, check_vector_column, ColType, Column, column_kind, columns_in, expect_kind, FunctionNames, GraphCause, kind_by, kind_of, makes, NamedTree, parent_of, refuse_unless, renamed, scope_at, scope_of, shape_of, Statement, Under, VaryValues}
use Rattle.graph_numbers.specs.{FilterAt, graph_filters, graph_sites, graph_under, HasFilters, IfPassed, Pass as NumberedPass, ResultAt, through_sites, cell_sources, filter_sites, filters, graph_kinds, graph_variations, GraphView, IsSiteExpr, own_filter_site, own_sites, own_sources, results, site_count, site_depends_at, site_in as numbered_site, SiteAt, sites, Source, source_in, sources, varied_sources, version_at, version_kinds}
use Rattle.graph_numbers.proofs.Placing.{itself, filters_below, further, IsPlaced, by_test, next_at, of_joined, each_filter, each_result, kind_later, visible_kind}
use Rattle.loop_keys.specs.{demand_key, HasAllDemands, HasPassed, HasTried, IsActionAt, IsCovered, IsJob, IsPlainLoop, job_graph, JobView, row_of, site_in, key, keys_before, own_keys, slot, slot_at, source_at}
use Rattle.loop_keys.proofs.ActionLaws.{IsSoundBooking, result_sound}
use Rattle.loop_keys.proofs.EvaluateLaws.{accepted_of}
use Rattle.block_passes.specs.{Chain, Demands, IsActionOf, IsDemandedAt, IsOfFilter, IsOfPass, IsReadOf, IsTried, HaveKinds}
use Rattle.rdf_model.specs.{◌>>=◌, booking_demands, Demand, filter_demands, Gives, is_true, Needs, Outcome, truth_of, Site, site_at}
use Rattle.graph_numbers.proofs.Closing.{IsDemanded, then_wider, wider_filters, wider_inputs, IsActionDemanded, IsFilterDemanded, filter_demanded, result_demanded}
use Rattle.loop_keys.proofs.KeyLaws.{demanded_in, demands_closed, demands_keys, in_demands, members_all, keys_next, slot_small}
use Rattle.loop_keys.proofs.PassNumbers.{pass_of, has_filter}
use Rattle.rdf_values.specs.declared.scripts.statement.Statement.TheVariants.{Action, Filter, Report, Vary}
use Rattle.rdf_model.proofs.Accepted.{both_none, kind_expected, checked_of}
use Rattle.rdf_model.proofs.Typing.{same_ok}
use Rattle.expr_check.specs.{callee_shape, CheckedExpr, IsWellTyped, number_kind}
use Rattle.expr_check.proofs.WellTyped.{callee_shape-callee, each_weaker}
use Rattle.expr_check.proofs.Typed.{columns_known, each_right, kind_by-renamed, kind_by-same}
use Rattle.rdf_values.specs.declared.scripts.statement.VaryValues.TheVariants.{Vector}
use Rattle.graph.specs.{has, members_below, VarSet}
use Rattle.block_cache.specs.{AreSiteKinds}
use Rattle.block_cache.proofs.Attempts.{site_tree}

pub all_get : {A : Type 0} (P : A → Type 0) (xs : List A) → All P xs → (k : ℕ) (x : A) → slice_get xs k ≡ Some x → P x
all_get P xs all k x at = subst P (get_or_from_slice_get xs k x x at) (all k x (slice_get_within xs k x at))

pub not_empty : (up : List ℕ) (s : ℕ) → up ++ s ∷ [] ≡ [] → ⊥
not_empty [] s q = cc q
not_empty (x ∷ xs) s q = cc q

-- the last filter of a chain that is tried is one of a pass's action, or of a named filter that is covered
module _ (j : JobView) (c : Chain) (up : List ℕ) (s : ℕ) (e : c.sites ≡ up ++ s ∷ []) where
  pub by_tried : {P : Type 0} → IsTried j c → ((p : IsOfPass j c) → p.result.filters ≡ up ++ s ∷ p.begins.rest → P) → ((f : IsOfFilter j c) → f.named.sites ≡ up ++ s ∷ f.begins.rest → P) → P
  by_tried (inl q) pass filter = absurd (not_empty up s (sym e ∙ q))
  by_tried (inr (inl p)) pass filter = pass p (p.begins.begins ∙ ap (λ l. l ++ p.begins.rest) e ∙ append_assoc up (s ∷ []) p.begins.rest)
  by_tried (inr (inr f)) pass filter = filter f (f.begins.begins ∙ ap (λ l. l ++ f.begins.rest) e ∙ append_assoc up (s ∷ []) f.begins.rest)

in_list : (P : ℕ → Type 0) (path up rest : List ℕ) (s : ℕ) → AllByRecursion P path → path ≡ up ++ s ∷ rest → P s
in_list P path up rest s all e = (each_right P up (s ∷ rest) (subst (λ (p : List ℕ). AllByRecursion P p) e all)).0

module _ (j : JobView) (job : IsJob j) (c : Chain) (up : List ℕ) (s : ℕ) (e : c.sites ≡ up ++ s ∷ []) (tried : IsTried j c) where
  -- it is a site of the graph
  pub site_there : s < length (graph_sites (job_graph j))
  site_there = by_tried j c up s e tried
      (λ p. in_list (λ t. t < length (graph_sites (job_graph j))) p.result.filters up p.begins.rest s
      (subst (λ (b : Booking). IsSoundBooking j.dataset (graph_under (job_graph j) p.numbered.variation) (history j.script) p.result b) p.action.booking
      (result_sound j.dataset (graph_under (job_graph j) p.numbered.variation) (history j.script) (history j.script) (accepted_of j job) itself p.numbered.result p.result p.action.its_result)).filters)
      (λ f. in_list (λ t. t < length (graph_sites (job_graph j))) f.named.sites up f.begins.rest s (filters_below j.dataset.columns (fn_names j.dataset.fns) (history j.script) f.filter f.named f.its_filter))

  -- and of a loop without vectors it is one of the sites without vectors
  pub site_used : (loop : IsPlainLoop j) → loop.used s ≡ true
  site_used loop = by_tried j c up s e tried
      (λ p. in_list (λ t. loop.used t ≡ true) p.result.filters up p.begins.rest s (recursion_from_All (λ t. loop.used t ≡ true) p.result.filters (loop.filters p.pass p.numbered p.result p.action.its_pass p.action.its_result)))
      (λ f. in_list (λ t. loop.used t ≡ true) f.named.sites up f.begins.rest s
      (recursion_from_All (λ t. loop.used t ≡ true) f.named.sites (loop.covers f.covered.pass f.filter f.covered.numbered f.covered.result f.named f.covered.its_pass f.covered.its_result f.covered.covers f.its_filter)))

-- What the actions of a loop read is there
pub action_at : {j : JobView} {pass : ℕ} {k : ActionKind} {inputs : List ℕ} {u : Option ℕ} (read : IsReadOf j pass k inputs u) → IsActionAt j read.numbered.result k read.result.filters inputs
action_at read = record { result = read.result; there_is = read.action.its_result; at = read.action.at; kind = read.action.booking; filters = refl; inputs = read.inputs_are }

-- ---- What is evaluated for a pass at a place, the loop demands there.

module _ (j : JobView) (job : IsJob j) (entry : ℕ) (row : List Value) (here : slice_get j.dataset.rows entry ≡ Some row) (T : ℕ → Bool) (all : HasAllDemands j entry T) where
  same_row : row ≡ row_of j entry
  same_row = ap (λ o. unwrap_or o []) (sym here)

  -- ---- an action's pass

  module _ (n : ℕ) (m : NumberedPass) (r : ResultAt) (k : ActionKind) (of : IsActionOf j n m r k) where
    abbrev demands : List Demand
    demands = booking_demands j.dataset.fns j.dataset.columns (row_of j entry) (ActionAt k of.at) (graph_under (job_graph j) m.variation)

    own : IsActionDemanded j.dataset.fns j.dataset.columns (row_of j entry) (graph_under (job_graph j) m.variation) (history j.script) (accepted_of j job) r (ActionAt k of.at)
    own =
        subst (λ (b : Booking). IsActionDemanded j.dataset.fns j.dataset.columns (row_of j entry) (graph_under (job_graph j) m.variation) (history j.script) (accepted_of j job) r b) of.booking
        (result_demanded j.dataset.fns j.dataset.columns (row_of j entry) (graph_under (job_graph j) m.variation) (history j.script) (accepted_of j job) (history j.script) (accepted_of j job) itself m.result r of.its_result)

    abbrev D : ℕ → Bool
    D = in_demands j job entry m.variation demands own.0

    all_in : All (λ (d : Demand). T (demand_key (job_graph j) d) ≡ true) demands
    all_in =
        subst (λ (b : Booking). All (λ (d : Demand). T (demand_key (job_graph j) d) ≡ true) (booking_demands j.dataset.fns j.dataset.columns (row_of j entry) b (graph_under (job_graph j) m.variation))) of.booking
        (subst (λ (x : List Value). All (λ (d : Demand). T (demand_key (job_graph j) d) ≡ true) (booking_demands j.dataset.fns j.dataset.columns x r.booked.booking (graph_under (job_graph j) m.variation))) same_row
        (all n row _ here (pass_of j n m of.its_pass r of.its_result)))

    tried : HasPassed j entry m.variation r.filters r.inputs D
    tried = (
      wider_filters j.dataset.fns j.dataset.columns (row_of j entry) (graph_under (job_graph j) m.variation) (history j.script) (accepted_of j job)
          (IsDemanded j.dataset.fns j.dataset.columns (row_of j entry) (graph_under (job_graph j) m.variation) (history j.script) (accepted_of j job) demands) (λ s. D s ≡ true)
          (demanded_in j job entry m.variation demands own.0) (site_in j entry m.variation) r.filters own.1,
      then_wider j.dataset.fns j.dataset.columns (row_of j entry) (graph_under (job_graph j) m.variation) (history j.script) (accepted_of j job)
          (through_sites (site_in j entry m.variation) r.filters)
          (wider_inputs j.dataset.fns j.dataset.columns (row_of j entry) (graph_under (job_graph j) m.variation) (history j.script) (accepted_of j job)
          (IsDemanded j.dataset.fns j.dataset.columns (row_of j entry) (graph_under (job_graph j) m.variation) (history j.script) (accepted_of j job) demands) (λ s. D s ≡ true)
          (demanded_in j job entry m.variation demands own.0) r.inputs) own.2,
    )

    -- the sites that the pass tries and reads
    pub pass_set : (E : ℕ → Bool) × IsDemandedAt j entry m.variation T E × HasPassed j entry m.variation r.filters r.inputs E
    pass_set = (D, record { closed = demands_closed j job entry m.variation demands own.0; keys = demands_keys j job entry m.variation demands own.0 T all_in }, tried)

  -- ---- a named filter that a report covers

  module _ (f : ℕ) (covered : IsCovered j f) (x : FilterAt) (its : slice_get (graph_filters (job_graph j)) f ≡ Some x) where
    abbrev wanted_sites : List Demand
    wanted_sites = filter_demands j.dataset.fns j.dataset.columns (row_of j entry) x.at None

    own_filter : IsFilterDemanded j.dataset.fns j.dataset.columns (row_of j entry) (history j.script) (accepted_of j job) x
    own_filter = filter_demanded j.dataset.fns j.dataset.columns (row_of j entry) (history j.script) (accepted_of j job) (history j.script) itself f x its

    abbrev E : ℕ → Bool
    E = in_demands j job entry None wanted_sites own_filter.0

    filter_in : All (λ (d : Demand). T (demand_key (job_graph j) d) ≡ true) wanted_sites
    filter_in =
        subst (λ (r : List Value). All (λ (d : Demand). T (demand_key (job_graph j) d) ≡ true) (filter_demands j.dataset.fns j.dataset.columns r x.at None)) same_row
        (has_filter j job entry f covered T all row x here its)

    pub filter_set : (F : ℕ → Bool) × IsDemandedAt j entry None T F × HasTried j entry None x.sites F
    filter_set = (
      E,
      record { closed = demands_closed j job entry None wanted_sites own_filter.0; keys = demands_keys j job entry None wanted_sites own_filter.0 T filter_in },
      wider_filters j.dataset.fns j.dataset.columns (row_of j entry) None (history j.script) (accepted_of j job)
          (IsDemanded j.dataset.fns j.dataset.columns (row_of j entry) None (history j.script) (accepted_of j job) wanted_sites) (λ s. E s ≡ true)
          (demanded_in j job entry None wanted_sites own_filter.0) (site_in j entry None) x.sites own_filter.1,
    )

  -- ---- one filter

  -- a filter is tried where those before it are passed
  tried_at : (D : ℕ → Bool) (site : ℕ → Outcome ⊥ Value) (up rest : List ℕ) (s : ℕ) → HasFilters (λ t. D t ≡ true) site (up ++ s ∷ rest) → is_true (through_sites site up) ≡ true → D s ≡ true
  tried_at D site [] rest s h e = h.0
  tried_at D site (t ∷ up) rest s h e = go (site t >>= truth_of) h.1 e (tried_at D site up rest s)
    where
      go : (o : Outcome ⊥ Bool) → IfPassed o (HasFilters (λ t. D t ≡ true) site (up ++ s ∷ rest)) → is_true (o >>= λ passed. if passed then through_sites site up else Gives false) ≡ true
          → (HasFilters (λ t. D t ≡ true) site (up ++ s ∷ rest) → is_true (through_sites site up) ≡ true → D s ≡ true) → D s ≡ true
      go (Gives true) a b next = next a b
      go (Needs m) a b next = elim m [ ]
      go o a b next = cc b

  pub step_demanded : (c : Chain) → IsTried j c → (up : List ℕ) (s : ℕ) → c.sites ≡ up ++ s ∷ [] → is_true (through_sites (site_in j entry c.under) up) ≡ true → Demands j entry c.under T s
  step_demanded c tried up s e passed = by_tried j c up s e tried
      (λ p. (let w = pass_set p.pass p.numbered p.result p.kind p.action in at_under p.numbered.variation p.result.filters p.begins.rest p.begins.its_under w.0 w.1 w.2.0))
      (λ f. (let w = filter_set f.filter f.covered f.named f.its_filter in at_under None f.named.sites f.begins.rest f.begins.its_under w.0 w.1 w.2))
    where
      at_under : (v : Option ℕ) (path rest : List ℕ) → c.under ≡ v → (D : ℕ → Bool) → IsDemandedAt j entry v T D → HasTried j entry v path D → path ≡ up ++ s ∷ rest → Demands j entry c.under T s
      at_under v path rest same D at h begins =
          let h_c : HasTried j entry c.under path D = subst (λ (w : Option ℕ). HasTried j entry w path D) (sym same) h in
          (D, subst (λ (w : Option ℕ). IsDemandedAt j entry w T D) (sym same) at, tried_at D (site_in j entry c.under) up rest s (subst (λ (p : List ℕ). HasTried j entry c.under p D) begins h_c) passed)

-- ---- the sites of filters come to truth values: the kinds of versions, as an expression lists them

abbrev known : Option ColType → Result ColType GraphCause
known None = Err GraphCause.UnknownColumn
known (Some k) = Ok k

-- what gives the kinds that the one gives is the same where the one gives kinds
known_same : {C : Type 0} (f g : C → Result ColType GraphCause) → ((c : C) (t : ColType) → f c ≡ Ok t → g c ≡ Ok t) → (cs : List C) → AllByRecursion (λ c. IsOk (f c)) cs → AllByRecursion (λ c. f c ≡ g c) cs
known_same f g more [] h = tt
known_same f g more (c ∷ cs) h = (one (f c) refl h.0, known_same f g more cs h.1)
  where
    one : (r : Result ColType GraphCause) → f c ≡ r → IsOk r → f c ≡ g c
    one (Ok t) q ok = q ∙ sym (more c t q)
    one (Err w) q ok = cc ok

number_known : (all : List ColType) (ks : List (ℕ × ColType)) → AllByRecursion (λ (k : ℕ × ColType). slice_get all k.0 ≡ Some k.1) ks → (v : ℕ) (t : ColType) → number_kind ks v ≡ Ok t → known (slice_get all v) ≡ Ok t
number_known all [] h v t is = cc is
number_known all (k ∷ ks) h v t is = grind (arith, Decides-eqb, number_known all ks h.1 v t)

-- an expression is of the kind that it has by the kinds that it lists
typed_by : (all : List ColType) (names : FunctionNames) (e : CheckedExpr) → All (λ (c : ℕ × ColType). slice_get all c.0 ≡ Some c.1) e.kinds → IsWellTyped names e
    → kind_by (λ (v : ℕ). known (slice_get all v)) (callee_shape names) e.tree ≡ Ok e.kind
typed_by all names e kinds typed =
    sym (kind_by-same (number_kind e.kinds) (λ (v : ℕ). known (slice_get all v)) (callee_shape names) (callee_shape names) (λ f. refl) e.tree
    (known_same (number_kind e.kinds) (λ (v : ℕ). known (slice_get all v)) (number_known all e.kinds (recursion_from_All (λ (c : ℕ × ColType). slice_get all c.0 ≡ Some c.1) e.kinds kinds))
    (columns_in e.tree) (columns_known (number_kind e.kinds) (callee_shape names) e.tree e.kind typed.typed)))
    ∙ typed.typed

module _ (header : List Column) (names : FunctionNames) where
  -- ---- the kind of a site's expression

  -- is the one that its statement was accepted with
  pub placed_kind : (before : List Statement) (s : ℕ) (x : SiteAt) (p : IsPlaced header names before s x) (e : CheckedExpr) → x.tree ≡ e.tree → All (λ (c : ℕ × ColType). slice_get (version_kinds header names before) c.0 ≡ Some c.1) e.kinds
      → IsWellTyped names e → e.kind ≡ p.kind
  placed_kind before s x p e tree kinds typed =
      same_ok e.kind p.kind (sym (typed_by (version_kinds header names before) names e kinds typed) ∙ ap (kind_by version (callee_shape names)) (sym tree ∙ ap (λ (y : SiteAt). y.tree) p.is) ∙ by_names)
    where
      version : ℕ → Result ColType GraphCause
      version v = known (slice_get (version_kinds header names before) v)

      by_names : kind_by version (callee_shape names) (renamed (version_at header p.earlier p.parent) (callee names) p.expr) ≡ Ok p.kind
      by_names =
          kind_by-renamed (version_at header p.earlier p.parent) (callee names) version (callee_shape names) p.expr
          ∙ sym (kind_by-same (column_kind (scope_at names (scope_of header) p.earlier p.parent)) (λ c. version (version_at header p.earlier p.parent c)) (shape_of names) (λ f. callee_shape names (callee names f)) (λ f. sym (callee_shape-callee names f)) p.expr
          (known_same _ (λ c. version (version_at header p.earlier p.parent c))
          (λ c t q. ap known (kind_later header names p.earlier before p.extends _ t (visible_kind header names p.earlier p.accepted p.parent c t q)))
          (columns_in p.expr) (columns_known (column_kind (scope_at names (scope_of header) p.earlier p.parent)) (shape_of names) p.expr p.kind p.typed)))
          ∙ p.typed

  -- ---- sites whose expressions were accepted as of a kind

  pub record IsSiteOf (t : ColType) (before : List Statement) (s : ℕ) : Type 0 where
    pub x : SiteAt
    pub at : slice_get (sites header names before) s ≡ Some x
    pub place : IsPlaced header names before s x
    pub its_kind : place.kind ≡ t

  pub further_site : (t : ColType) (before : List Statement) (next : Statement) (s : ℕ) → IsSiteOf t before s → IsSiteOf t (next ∷ before) s
  further_site t before next s h =
      let p = h.place in
      record {
        x = h.x;
        at = kept_at (sites header names before) (own_sites header names before next) s h.x h.at;
        place = record { earlier = p.earlier; parent = p.parent; site = p.site; expr = p.expr; kind = p.kind; is = p.is; extends = further next p.extends; start = p.start; accepted = p.accepted; typed = p.typed };
        its_kind = h.its_kind;
      }

  -- a statement's first site
  pub first_site : (t : ColType) (before : List Statement) (next : Statement) (parent : List ℕ) (site : Site) (expr : NamedTree) → slice_get (own_sites header names before next) 0 ≡ Some (numbered_site header names before parent site expr)
      → AreAccepted names (scope_of header) before → expect_kind t (kind_of (scope_at names (scope_of header) before parent) names expr) ≡ None → IsSiteOf t (next ∷ before) (site_count header names before)
  first_site t before next parent site expr first good typed =
      let n : site_count header names before ≡ length (sites header names before) + 0 = omega arith in
      record {
        x = numbered_site header names before parent site expr;
        at = next_at (sites header names before) (own_sites header names before next) 0 _ n ∙ first;
        place = record { earlier = before; parent = parent; site = site; expr = expr; kind = t; is = refl; extends = further next itself; start = omega arith; accepted = good; typed = kind_expected t _ typed };
        its_kind = refl;
      }

  -- ---- the sites of filters

  abbrev pub IsFilterSite : List Statement → ℕ → Type 0
  IsFilterSite before s = IsSiteOf ColType.Bool before s

  further_sites : (before : List Statement) (t : Statement) (ss : List ℕ) → AllByRecursion (IsFilterSite before) ss → AllByRecursion (IsFilterSite (t ∷ before)) ss
  further_sites before t = each_weaker (IsFilterSite before) (IsFilterSite (t ∷ before)) (further_site ColType.Bool before t)

  filter_own : (before : List Statement) (node parent : List ℕ) (expr : _) (label : _) → AreAccepted names (scope_of header) (Filter node parent expr label ∷ before) → IsFilterSite (Filter node parent expr label ∷ before) (site_count header names before)
  filter_own before node parent expr label good =
      let p = both_none (check_node before node parent) (expect_kind ColType.Bool (kind_of (scope_at names (scope_of header) before parent) names expr) ∷ []) good.0 in
      let q = both_none (expect_kind ColType.Bool (kind_of (scope_at names (scope_of header) before parent) names expr)) [] p.1 in
      first_site ColType.Bool before (Filter node parent expr label) parent (site_at node) expr refl good.1 q.0

  -- a statement's own filter, and those above it
  with_own : (before : List Statement) (s : Statement) (ss : List ℕ) → AreAccepted names (scope_of header) (s ∷ before) → AllByRecursion (IsFilterSite before) ss
      → AllByRecursion (IsFilterSite (s ∷ before)) (ss ++ own_filter_site s (site_count header names before))
  with_own before (Filter node parent expr label) ss good h = each_append (IsFilterSite (Filter node parent expr label ∷ before)) ss (site_count header names before ∷ []) (further_sites before (Filter node parent expr label) ss h) (filter_own before node parent expr label good, tt)
  with_own before s ss good h = subst (λ (l : List ℕ). AllByRecursion (IsFilterSite (s ∷ before)) l) (sym (append-nil ss)) (further_sites before s ss h)

  pub path_filters : (before : List Statement) → AreAccepted names (scope_of header) before → (node : List ℕ) → AllByRecursion (IsFilterSite before) (filter_sites header names before node)
  path_filters [] good node = tt
  path_filters (s ∷ before) good node =
      by_test (makes s node) (λ e. rw e (with_own before s (filter_sites header names before (parent_of s)) good (path_filters before good.1 (parent_of s))))
      (λ e. rw e (further_sites before s (filter_sites header names before node) (path_filters before good.1 node)))

  -- of a named filter, with those above it
  pub named_filters : (before : List Statement) → AreAccepted names (scope_of header) before → (n : ℕ) (f : FilterAt) → slice_get (filters header names before) n ≡ Some f → AllByRecursion (IsFilterSite before) f.sites
  named_filters before good n f h =
      each_filter header names (λ upto f. AreAccepted names (scope_of header) upto → AllByRecursion (IsFilterSite upto) f.sites) (λ upto s f next ok. further_sites upto s f.sites (next ok.1))
      (λ upto node parent expr label ok. with_own upto (Filter node parent expr (Some label)) (filter_sites header names upto parent) ok (path_filters upto ok.1 parent)) before n f h good

  -- of a result
  pub result_filters : (before : List Statement) → AreAccepted names (scope_of header) before → (n : ℕ) (r : ResultAt) → slice_get (results header names before) n ≡ Some r → AllByRecursion (IsFilterSite before) r.filters
  result_filters before good n r h =
      each_result header names (λ upto r. AreAccepted names (scope_of header) upto → AllByRecursion (IsFilterSite upto) r.filters) (λ upto s r next ok. further_sites upto s r.filters (next ok.1))
      (λ upto result parent k ok. further_sites upto (Action result parent k) (filter_sites header names upto parent) (path_filters upto ok.1 parent))
      (λ upto result parent ok. further_sites upto (Report result parent) (filter_sites header names upto parent) (path_filters upto ok.1 parent)) before n r h good

-- the kind of such a site of a job's graph
pub kind_of_site : (j : JobView) (t : ColType) (s : ℕ) → IsSiteOf j.dataset.columns (fn_names j.dataset.fns) t (history j.script) s → (e : CheckedExpr) → IsSiteExpr (job_graph j) s e → e.kind ≡ t
kind_of_site j t s h e its =
    let tree : h.x.tree ≡ e.tree = same_Some h.x.tree e.tree (sym (ap (option_map (λ (y : SiteAt). y.tree)) h.at) ∙ its.tree) in
    placed_kind j.dataset.columns (fn_names j.dataset.fns) (history j.script) s h.x h.place e tree its.kinds its.typed ∙ h.its_kind

-- the last filter of a chain that is tried comes to truth values
pub filter_kind : (j : JobView) (job : IsJob j) (c : Chain) (up : List ℕ) (s : ℕ) → c.sites ≡ up ++ s ∷ [] → IsTried j c → (x : CheckedExpr) → IsSiteExpr (job_graph j) s x → x.kind ≡ ColType.Bool
filter_kind j job c up s e tried =
    kind_of_site j ColType.Bool s
    (by_tried j c up s e tried
    (λ p. in_list (IsFilterSite j.dataset.columns (fn_names j.dataset.fns) (history j.script)) p.result.filters up p.begins.rest s (result_filters j.dataset.columns (fn_names j.dataset.fns) (history j.script) (accepted_of j job) p.numbered.result p.result p.action.its_result))
    (λ f. in_list (IsFilterSite j.dataset.columns (fn_names j.dataset.fns) (history j.script)) f.named.sites up f.begins.rest s (named_filters j.dataset.columns (fn_names j.dataset.fns) (history j.script) (accepted_of j job) f.filter f.named f.its_filter)))

-- ---- The site of an element is one of vectors.

of_some : (xs : List Source) (c t k tags : ℕ) → source_in xs c ≡ Source.Element t k tags → slice_get xs c ≡ Some (Source.Element t k tags)
of_some [] c t k tags h = cc h
of_some (x ∷ xs) zero t k tags h = ap Some h
of_some (x ∷ xs) (suc c) t k tags h = of_some xs c t k tags h

module _ (header : List Column) (names : FunctionNames) where
  -- the site is there, of an expression that was accepted as one of vectors
  abbrev IsVectorSite : List Statement → ℕ → Type 0
  IsVectorSite before s = IsSiteOf header names ColType.Vect before s

  vector_own : (before : List Statement) (node parent : List ℕ) (columns : List (List ℕ)) (expr : _) (tags : _) (vary : _) → AreAccepted names (scope_of header) (Vary node parent columns (Vector expr) tags vary ∷ before)
      → IsVectorSite (Vary node parent columns (Vector expr) tags vary ∷ before) (site_count header names before)
  vector_own before node parent columns expr tags vary good =
      let c = checked_of names (scope_of header) before (Vary node parent columns (Vector expr) tags vary) good.0 in
      let p = both_none (refuse_unless (nat_eq (length columns) 1) GraphCause.WrongCount)
      (expect_kind ColType.Vect (kind_of (scope_at names (scope_of header) before parent) names expr) ∷ check_vector_column (scope_at names (scope_of header) before parent) columns ∷ []) c.1 in
      let q = both_none (expect_kind ColType.Vect (kind_of (scope_at names (scope_of header) before parent) names expr)) (check_vector_column (scope_at names (scope_of header) before parent) columns ∷ []) p.1 in
      first_site header names ColType.Vect before (Vary node parent columns (Vector expr) tags vary) parent (site_at node) expr refl good.1 q.0

  module _ (u : Under) where
    no_cell : (n : ℕ) (cs : List Column) (c t k tags : ℕ) → slice_get (cell_sources n cs) c ≡ Some (Source.Element t k tags) → ⊥
    no_cell n (d ∷ cs) (suc c) t k tags h = no_cell (suc n) cs c t k tags h
    no_cell n cs c t k tags h = cc h

    abbrev OfVectors : List Statement → List Statement → Type 0
    OfVectors before after = (c t k tags : ℕ) → slice_get (sources header names u before) c ≡ Some (Source.Element t k tags) → IsVectorSite after t

    from_varied : (before after : List Statement) (parent : List ℕ) (values : VaryValues) (names_of : List (List ℕ)) (vary : _) → OfVectors before after → ((e : _) → values ≡ Vector e → IsVectorSite after (site_count header names before))
        → (i : ℕ) (columns : List (List ℕ)) (c t k tags : ℕ) → slice_get (varied_sources header names u before (sources header names u before) parent values names_of vary i columns) c ≡ Some (Source.Element t k tags) → IsVectorSite after t
    from_varied before after parent values names_of vary old own i [] c t k tags h = cc h
    from_varied before after parent values names_of vary old own i (name ∷ columns) zero t k tags h = grind (arith, own, of_some)
    from_varied before after parent values names_of vary old own i (name ∷ columns) (suc c) t k tags h = from_varied before after parent values names_of vary old own (suc i) columns c t k tags h

    from_statement : (before : List Statement) (s : Statement) → AreAccepted names (scope_of header) (s ∷ before) → OfVectors before (s ∷ before)
        → (c t k tags : ℕ) → slice_get (own_sources header names u before (sources header names u before) s) c ≡ Some (Source.Element t k tags) → IsVectorSite (s ∷ before) t
    from_statement before (Vary node parent columns values tag_names vary) good old c t k tags h =
        from_varied before (Vary node parent columns values tag_names vary ∷ before) parent values tag_names vary old own 0 columns c t k tags h
      where
        own : (e : _) → values ≡ Vector e → IsVectorSite (Vary node parent columns values tag_names vary ∷ before) (site_count header names before)
        own e is =
            subst (λ (v : VaryValues). AreAccepted names (scope_of header) (Vary node parent columns v tag_names vary ∷ before) → IsVectorSite (Vary node parent columns v tag_names vary ∷ before) (site_count header names before)) (sym is)
            (vector_own before node parent columns e tag_names vary) good
    from_statement before s good old zero t k tags h = cc h
    from_statement before s good old (suc c) t k tags h = cc h

    -- the site of each element
    of_elements : (before : List Statement) → AreAccepted names (scope_of header) before → OfVectors before before
    of_elements [] good c t k tags h = absurd (no_cell 0 header c t k tags h)
    of_elements (s ∷ before) good c t k tags h =
        go (λ d n m l q. further_site header names ColType.Vect before s n (of_elements before good.1 d n m l q))
        (of_joined (sources header names u before) (own_sources header names u before (sources header names u before) s) c (Source.Element t k tags) h)
      where
        go : OfVectors before (s ∷ before) → (slice_get (sources header names u before) c ≡ Some (Source.Element t k tags))
            ⊎ ((n : ℕ) × (c ≡ length (sources header names u before) + n) × (slice_get (own_sources header names u before (sources header names u before) s) n ≡ Some (Source.Element t k tags))) → IsVectorSite (s ∷ before) t
        go old (inl q) = old c t k tags q
        go old (inr q) = from_statement before s good old q.0 t k tags q.2

-- the site of an element that gives a version its value is one of vectors
pub element_kind : (j : JobView) → IsJob j → (u : Option ℕ) (c t k tags : ℕ) → source_at j u c ≡ Source.Element t k tags → (e : CheckedExpr) → IsSiteExpr (job_graph j) t e → e.kind ≡ ColType.Vect
element_kind j job u c t k tags is e its = grind (arith, of_elements, accepted_of, of_some, kind_of_site)

-- The kinds of keys, site by site
pub one_kind : (g : GraphView) (s : ℕ) (e d : CheckedExpr) → IsSiteExpr g s e → IsSiteExpr g s d → e.kind ≡ d.kind
one_kind g s e d its other =
    let trees : e.tree ≡ d.tree = same_Some e.tree d.tree (sym its.tree ∙ other.tree) in
    same_ok e.kind d.kind
    (sym (typed_by (graph_kinds g) g.names e its.kinds its.typed) ∙ ap (kind_by (λ (v : ℕ). known (slice_get (graph_kinds g) v)) (callee_shape g.names)) trees
    ∙ typed_by (graph_kinds g) g.names d other.kinds other.typed)

-- ---- keys of one more site

own_kind : (n i : ℕ) (k : ColType) → i < n → slice_get (replicate n k) i ≡ Some k
own_kind n i k low = slice_get-get_or (replicate n k) i k (let l = length-replicate n k in omega (arith, l, low)) ∙ ap Some (get_or-replicate n i k k low)

pub no_kinds : (g : GraphView) (kinds : List ColType) → HaveKinds g 0 kinds
no_kinds g kinds t w low = absurd (omega (arith, low))

module _ (g : GraphView) (site : ℕ) (inside : site < length (graph_sites g)) (depends : VarSet) (its : (v : ℕ) → has depends v ≡ site_depends_at g site v) (count : ℕ) (members : count ≡ members_below depends 128)
    (above : (v : ℕ) → 128 ≤ v → has depends v ≡ false) (e : CheckedExpr) (expr : IsSiteExpr g site e) (kinds : List ColType) (many : length kinds ≡ keys_before (graph_variations g) (graph_sites g) site)
    (more : List ColType) (are : more ≡ kinds ++ replicate (1 + count) e.kind) where
  abbrev x : SiteAt
  x = (something_at (graph_sites g) site inside).0

  at : slice_get (graph_sites g) site ≡ Some x
  at = (something_at (graph_sites g) site inside).1

  own_count : 1 + count ≡ own_keys (graph_variations g) x
  own_count = grind (arith, members_all, at)

  pub more_many : length more ≡ keys_before (graph_variations g) (graph_sites g) (site + 1)
  more_many =
      let a = length-append kinds (replicate (1 + count) e.kind) in
      let b = length-replicate (1 + count) e.kind in
      let c = keys_next (graph_variations g) (graph_sites g) site x at in
      let s : suc site ≡ site + 1 = omega arith in
      ap length are ∙ a ∙ omega (arith, b, c, many, own_count) ∙ ap (keys_before (graph_variations g) (graph_sites g)) s

  pub more_kinds : HaveKinds g site kinds → HaveKinds g (site + 1) more
  more_kinds so_far t w low = go (cases_eq t site)
    where
      own_key : key g site w ≡ length kinds + slot (graph_variations g) x w
      own_key = let k : key g site w ≡ keys_before (graph_variations g) (graph_sites g) site + slot (graph_variations g) x w = ap (λ o. keys_before (graph_variations g) (graph_sites g) site + slot_at (graph_variations g) o w) at in omega (arith, k, many)

      mine : slice_get more (key g site w) ≡ Some e.kind
      mine =
          let low = slot_small (graph_variations g) x w in
          ap (λ ks. slice_get ks (key g site w)) are ∙ next_at kinds (replicate (1 + count) e.kind) (slot (graph_variations g) x w) (key g site w) own_key ∙ own_kind (1 + count) (slot (graph_variations g) x w) e.kind (omega (arith, low, own_count))

      go : (t ≡ site) ⊎ (t ≡ site → ⊥) → (d : CheckedExpr) × IsSiteExpr g t d × (slice_get more (key g t w) ≡ Some d.kind)
      go (inl q) = subst (λ (n : ℕ). (d : CheckedExpr) × IsSiteExpr g n d × (slice_get more (key g n w) ≡ Some d.kind)) (sym q) (e, expr, mine)
      go (inr q) =
          let h = so_far t w (omega (arith, low, q)) in
          (h.0, h.1, ap (λ ks. slice_get ks (key g t w)) are ∙ kept_at kinds (replicate (1 + count) e.kind) (key g t w) h.0.kind h.2)

pub site_kinds : (g : GraphView) (kinds : List ColType) → HaveKinds g (length (graph_sites g)) kinds → AreSiteKinds g kinds
site_kinds g kinds have t w e k its got =
    let x = site_tree its in
    let h = have t w (slice_get_within (graph_sites g) t x.0 x.1) in
    one_kind g t e h.0 its h.1 ∙ same_Some h.0.kind k (sym h.2 ∙ got)
