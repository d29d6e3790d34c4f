-- Named filters, and what Reports cover, by the numbers of their sites and of the filters.
use Rattle.lemmas.proofs.{◌≡◌, ℕ, false, List, [], ◌∷◌, ◌++◌, map, Option, None, Ok, refl, sym, ap, arith, if◌then◌else◌, option_map, suc, ◌+◌, length, Some, ◌∙◌, subst, slice_get, append_assoc, length-append, Bool, true, not, filter, filter_map, flat_map, option_and_then, append-nil, filter_map-append, kept_at, length-map, map-append}
use Rattle.rdf_values.specs.{ActionKind, AreAccepted, bookings, check_columns, check_edges, check_node, check_passes, check_results, ColType, Column, column_kind, columns_of, fn_names, Function, GraphCause, NamedTree, parent_of, path, permitted_kinds, scope_at, scope_of, Statement, Under, Value, ActionAt, covered, FunctionNames, history, makes, named_before, named_on, Path, ReportOn, booked_by, among, Booked, filled, Pass, passes_of, result_depends, Variation, variations, waiting, callee, EachColumn, renamed, shape_of}
use Rattle.rdf_values.specs.declared.scripts.statement.Statement.TheVariants.{Filter, Action, Report, Print, Define}
use Rattle.rdf_model.specs.{◌>>=◌, action_outcome, column_value, expression_value, feed_outcome, for_all, Gives, Outcome, site_at, Skip, through, truth_of, report_outcome, booking_outcome, Entry, Access, accesses, filled_by, loop_passes, loop_results, column_demands, Demand, named_demands, named_value, site_demands, tag_demands, tag_element, tag_value, value_if, call_outcome, evaluate, named_call}
use Rattle.rdf_model.proofs.Accepted.{all_none}
use Rattle.graph_numbers.specs.{filter_sites, own_filter_site, site_count, site_in, site_outcome, site_value, sites, through_sites, version_at, all_or, ActionsHaveSites, condition_of, conditions_on, covered_at, FilterAt, filters, FiltersAreTheScripts, FiltersHaveSites, filters_on, graph_sites, numbers_from, own_filter, own_filters, own_sites, report_numbers, ReportsCoverFilters, ResultAt, results, through_filter, booking_numbers, own_results, loops, numbered_pass, own_loop, own_run, Pass as NumberedPass, pass_at, passes_from, places_from, result_passes, runs, cell_value, Source, SiteAt, source_in, source_value, sources}
use Rattle.graph_numbers.proofs.Placing.{by_test, next_at, each_filter, each_result, shorter, Extends, site_kept, itself, further, kept, placed}
use Rattle.std.proofs.lemmas.Option.{get_or_from_slice_get}
use Rattle.rdf_model.proofs.Evaluations.{agrees, evaluate_renamed}
use Rattle.rdf_model.proofs.Typing.{known_columns, each_weaker, IsKnownColumn}
use Rattle.graph_numbers.proofs.Origins as origin

-- ---- what a site comes to, by what its columns' versions come to; and that the sites of these have lower numbers: the version of a visible column is given by what gives the column its value at that node, and demands what reading the column demands

module _ (M : Type 0) (fns : List Function) (columns : List Column) (row : List Value) (u : Under) where
  abbrev pub values : origin.Reading (Outcome M Value)
  values =
      record {
        read = λ up name. named_value fns columns row up u name;
        of_cell = λ col. cell_value (slice_get row col);
        of_site = λ x. site_outcome fns columns row x u;
        of_element = λ x k tags. site_outcome fns columns row x u >>= tag_element tags k;
        of_tag = λ up node its tags i k. tag_value its tags i k (λ e. expression_value fns (column_value fns columns row up u) e);
      }

  -- version c has a source, which gives this outcome
  abbrev pub HasSource : List Statement → ℕ → Outcome M Value → Type 0
  HasSource = origin.HasSource columns (fn_names fns) u values

  abbrev pub IsGiven : List Statement → Source → Outcome M Value → Type 0
  IsGiven = origin.IsGiven columns (fn_names fns) u values

  value_steps : (before : List Statement) (s : Statement) (name : List ℕ) → values.read (s ∷ path before (parent_of s)) name ≡ origin.at_step columns (fn_names fns) u values before s name
  value_steps before (Define node parent column expr) name = refl
  value_steps before s name = refl

  pub column_source : (before : List Statement) → AreAccepted (fn_names fns) (scope_of columns) before → (node name : List ℕ) (t : ColType)
      → column_kind (scope_at (fn_names fns) (scope_of columns) before node) name ≡ Ok t
      → HasSource before (version_at columns before node name) (column_value fns columns row (path before node) u name)
  column_source =
      origin.visible_source columns (fn_names fns) u values (λ name t h. origin.cell_is columns row name t h) value_steps
      (λ before parent node lists tags i k e q. ap (value_if (λ x. expression_value fns (column_value fns columns row (path before parent) u) x)) q) (λ before parent node e tags i k. refl)

module _ (fns : List Function) (columns : List Column) (row : List Value) (u : Under) where
  -- a site with what the columns that it meets demand
  abbrev pub demands : origin.Reading (List Demand)
  demands =
      record {
        read = λ up name. named_demands fns columns row up u name;
        of_cell = λ col. [];
        of_site = λ x. site_demands fns columns row x.at u x.site x.expr (column_demands fns columns row x.at u);
        of_element = λ x k tags. site_demands fns columns row x.at u x.site x.expr (column_demands fns columns row x.at u);
        of_tag = λ up node its tags i k. tag_demands fns columns row up u node its (column_demands fns columns row up u) i k;
      }

  -- version c has a source, which demands this
  abbrev pub HasDemandsOf : List Statement → ℕ → List Demand → Type 0
  HasDemandsOf = origin.HasSource columns (fn_names fns) u demands

  demand_steps : (before : List Statement) (s : Statement) (name : List ℕ) → demands.read (s ∷ path before (parent_of s)) name ≡ origin.at_step columns (fn_names fns) u demands before s name
  demand_steps before s name = grind arith

  pub column_demanded : (before : List Statement) → AreAccepted (fn_names fns) (scope_of columns) before → (node name : List ℕ) (t : ColType)
      → column_kind (scope_at (fn_names fns) (scope_of columns) before node) name ≡ Ok t
      → HasDemandsOf before (version_at columns before node name) (column_demands fns columns row (path before node) u name)
  column_demanded =
      origin.visible_source columns (fn_names fns) u demands (λ name t h. refl) demand_steps (λ before parent node lists tags i k e q. rw (q, tag_demands) refl) (λ before parent node e tags i k. refl)

module _ (M : Type 0) (fns : List Function) (columns : List Column) (row : List Value) (u : Under) where
  -- what a site and a version of the statements so far come to, by their numbers
  abbrev pub number_value : List Statement → ℕ → Outcome M Value
  number_value before s = site_value (λ x. site_outcome fns columns row x u) (slice_get (sites columns (fn_names fns) before) s)

  abbrev pub version_value : List Statement → ℕ → Outcome M Value
  version_value before c = source_value row (number_value before) (source_in (sources columns (fn_names fns) u before) c)

  -- the value of a version by its number is what its source gives
  pub source_is : (before : List Statement) (c : ℕ) (o : Outcome M Value) → HasSource M fns columns row u before c o → version_value before c ≡ o
  source_is before c o h = grind (arith, get_or_from_slice_get)

  pub source_later : (before after : List Statement) → Extends before after → (c : ℕ) (o : Outcome M Value) → HasSource M fns columns row u before c o → HasSource M fns columns row u after c o
  source_later = origin.source_later columns (fn_names fns) u (values M fns columns row u)

  -- a site comes to what its expression over versions comes to
  pub site_is : (before : List Statement) → AreAccepted (fn_names fns) (scope_of columns) before → (s : ℕ) (x : SiteAt) → slice_get (sites columns (fn_names fns) before) s ≡ Some x
      → site_outcome fns columns row x u ≡ evaluate (version_value before) (call_outcome fns) x.tree
  site_is before good s x h =
      let p = placed columns (fn_names fns) before good s x h in
      let e : EachColumn (λ c. version_value before (version_at columns p.earlier p.parent c) ≡ column_value fns columns row (path p.earlier p.parent) u c) p.expr =
      each_weaker (IsKnownColumn (column_kind (scope_at (fn_names fns) (scope_of columns) p.earlier p.parent)) (shape_of (fn_names fns))) _
      (λ c k. source_is before _ _ (source_later p.earlier before p.extends _ _ (column_source M fns columns row u p.earlier p.accepted p.parent c k.0 k.1))) p.expr
      (known_columns (column_kind (scope_at (fn_names fns) (scope_of columns) p.earlier p.parent)) (shape_of (fn_names fns)) p.expr p.kind p.typed) in
      let f : evaluate (version_value before) (call_outcome fns) (renamed (version_at columns p.earlier p.parent) (callee (fn_names fns)) p.expr)
      ≡ site_outcome fns columns row (site_in columns (fn_names fns) p.earlier p.parent p.site p.expr) u =
      evaluate_renamed (version_at columns p.earlier p.parent) (callee (fn_names fns)) (version_value before) (call_outcome fns) p.expr ∙ agrees _ _ (named_call fns) p.expr e in
      ap (λ (y : SiteAt). site_outcome fns columns row y u) p.is ∙ sym f ∙ ap (λ (y : SiteAt). evaluate (version_value before) (call_outcome fns) y.tree) (sym p.is)

-- ---- filters, actions and reports by numbers are those of the paths

module _ {M : Type 0} (site : ℕ → Outcome M Value) where
  through_append : (ts : List ℕ) (s : ℕ) → through_sites site (ts ++ s ∷ []) ≡ (through_sites site ts >>= λ b. if b then (site s >>= truth_of) else Gives false)
  through_append [] s = grind arith
  through_append (t ∷ ts) s = grind (arith, through_append ts s)

module _ (M : Type 0) (fns : List Function) (columns : List Column) (row : List Value) (u : Under) (before : List Statement) where
  abbrev numbered : ℕ → Outcome M Value
  numbered = number_value M fns columns row u before

  abbrev versioned : ℕ → Outcome M Value
  versioned = version_value M fns columns row u before

  -- the last filter of a path
  at_filter : (earlier : List Statement) (node parent : List ℕ) (expr : NamedTree) (label : Option (List ℕ)) → Extends (Filter node parent expr label ∷ earlier) before
      → numbered (site_count columns (fn_names fns) earlier) ≡ expression_value fns (column_value fns columns row (path earlier parent) u) expr
  at_filter earlier node parent expr label e =
      ap (site_value (λ x. site_outcome fns columns row x u))
      (site_kept columns (fn_names fns) (Filter node parent expr label ∷ earlier) before e (site_count columns (fn_names fns) earlier) (site_in columns (fn_names fns) earlier parent (site_at node) expr)
      (next_at (sites columns (fn_names fns) earlier) (site_in columns (fn_names fns) earlier parent (site_at node) expr ∷ []) 0 _ (omega arith)))

  pub through_statement : (earlier : List Statement) (s : Statement) → Extends (s ∷ earlier) before
      → through fns columns row {M = M} (path earlier (parent_of s)) u ≡ through_sites numbered (filter_sites columns (fn_names fns) earlier (parent_of s))
      → through fns columns row {M = M} (s ∷ path earlier (parent_of s)) u
      ≡ through_sites numbered (filter_sites columns (fn_names fns) earlier (parent_of s) ++ own_filter_site s (site_count columns (fn_names fns) earlier))
  through_statement earlier s e h = grind (arith, at_filter, through_append, append-nil)

  -- the filters above a node by the numbers of their sites
  pub through_is : (earlier : List Statement) → Extends earlier before → (node : List ℕ)
      → through fns columns row {M = M} (path earlier node) u ≡ through_sites numbered (filter_sites columns (fn_names fns) earlier node)
  through_is [] e node = refl
  through_is (s ∷ earlier) e node =
      grind (arith, by_test, through_statement, shorter, through_is earlier (shorter s earlier before e) (parent_of s), through_is earlier (shorter s earlier before e) node)

  -- ---- actions

  abbrev pub AreVisible : List Statement → List ℕ → List (List ℕ) → Type 0
  AreVisible earlier node [] = Unit {0}
  AreVisible earlier node (c ∷ cs) = ((t : ColType) × (column_kind (scope_at (fn_names fns) (scope_of columns) earlier node) c ≡ Ok t)) × AreVisible earlier node cs

  -- the columns that an action reads are visible
  pub checked_visible : (earlier : List Statement) (node : List ℕ) (permitted : List (List ColType)) (kinds : List ColType) (cs : List (List ℕ))
      → check_columns (scope_at (fn_names fns) (scope_of columns) earlier node) permitted kinds cs ≡ None → AreVisible earlier node cs
  checked_visible earlier node permitted kinds [] h = tt
  checked_visible earlier node permitted kinds (c ∷ cs) h = grind (arith, by_test, λ (t : ColType). checked_visible earlier node permitted (kinds ++ t ∷ []) cs)

  pub values_are : (earlier : List Statement) → AreAccepted (fn_names fns) (scope_of columns) earlier → Extends earlier before → (node : List ℕ) (cs : List (List ℕ)) → AreVisible earlier node cs
      → for_all (column_value fns columns row {M = M} (path earlier node) u) cs ≡ for_all versioned (map (version_at columns earlier node) cs)
  values_are earlier good e node [] v = refl
  values_are earlier good e node (c ∷ cs) v =
      let h = source_is M fns columns row u before _ _ (source_later M fns columns row u earlier before e _ _ (column_source M fns columns row u earlier good node c v.0.0 v.0.1)) in
      λ i. sym h i >>= λ y. values_are earlier good e node cs v.1 i >>= λ ys. Gives (y ∷ ys)

  -- the columns of an action that was checked
  pub action_visible : (earlier : List Statement) (result parent : List ℕ) (k : ActionKind) → AreAccepted (fn_names fns) (scope_of columns) (Action result parent k ∷ earlier) → AreVisible earlier parent (columns_of k)
  action_visible earlier result parent k good =
      let rest : List (Option GraphCause) = check_edges k ∷ check_results (Action result parent k ∷ earlier) ∷ check_passes earlier (bookings (Action result parent k ∷ earlier)) ∷ [] in
      let all = all_none (check_node earlier result parent ∷ check_columns (scope_at (fn_names fns) (scope_of columns) earlier parent) (permitted_kinds k) [] (columns_of k) ∷ rest) good.0 in
      checked_visible earlier parent (permitted_kinds k) [] (columns_of k) all.1.0

  -- an action by the numbers of its filters and of the versions that it reads
  pub action_is : (earlier : List Statement) (result parent : List ℕ) (k : ActionKind) → AreAccepted (fn_names fns) (scope_of columns) (Action result parent k ∷ earlier) → Extends earlier before
      → action_outcome fns columns row {M = M} k (path earlier parent) u
      ≡ (through_sites numbered (filter_sites columns (fn_names fns) earlier parent) >>= λ passed. if passed then for_all versioned (map (version_at columns earlier parent) (columns_of k)) >>= feed_outcome k else Gives Skip)
  action_is earlier result parent k good e = grind (arith, through_is, values_are, action_visible)

-- ---- elements at numbers

module _ {X Y : Type 0} (of : X → Y) where
  -- the elements of a list at these numbers come to these
  abbrev pub AreAt : List X → List ℕ → List Y → Type 0
  AreAt xs [] [] = Unit {0}
  AreAt xs (n ∷ ns) (y ∷ ys) = ((x : X) × (slice_get xs n ≡ Some x) × (of x ≡ y)) × AreAt xs ns ys
  AreAt xs ns ys = ⊥

  at_append : (xs : List X) (ns ms : List ℕ) (ys zs : List Y) → AreAt xs ns ys → AreAt xs ms zs → AreAt xs (ns ++ ms) (ys ++ zs)
  at_append xs (n ∷ ns) ms (y ∷ ys) zs h k = (h.0, at_append xs ns ms ys zs h.1 k)
  at_append xs ns ms ys zs h k = grind arith

  at_kept : (xs more : List X) → ((k : ℕ) (x : X) → slice_get xs k ≡ Some x → slice_get more k ≡ Some x) → (ns : List ℕ) (ys : List Y) → AreAt xs ns ys → AreAt more ns ys
  at_kept xs more f (n ∷ ns) (y ∷ ys) h = ((h.0.0, f n h.0.0 h.0.1, h.0.2), at_kept xs more f ns ys h.1)
  at_kept xs more f ns ys h = grind arith

  at_map : (xs : List X) (ns : List ℕ) (ys : List Y) → AreAt xs ns ys → map (λ n. option_map of (slice_get xs n)) ns ≡ map (λ y. Some y) ys
  at_map xs (n ∷ ns) (y ∷ ys) h = let one : option_map of (slice_get xs n) ≡ Some y = ap (option_map of) h.0.1 ∙ ap Some h.0.2 in λ i. one i ∷ at_map xs ns ys h.1 i
  at_map xs ns ys h = grind arith

-- ---- named filters

module _ (header : List Column) (names : FunctionNames) where
  filter_kept : (before after : List Statement) → Extends before after → (k : ℕ) (x : FilterAt) → slice_get (filters header names before) k ≡ Some x → slice_get (filters header names after) k ≡ Some x
  filter_kept = kept (filters header names) (own_filters header names) (λ before s. refl)

  -- there is one named filter for each that is booked
  pub filters_are : (before : List Statement) → map (λ (f : FilterAt). f.at) (filters header names before) ≡ named_before before
  filters_are [] = refl
  filters_are (s ∷ before) = grind (arith, map-append, append-nil, filters_are before)

-- the filters of the paths have these numbers, and the sites of each are those above a node and its own
module _ (fns : List Function) (columns : List Column) where
  abbrev pub AreNumbersOf : List Statement → List ℕ → List Path → Type 0
  AreNumbersOf before = AreAt (λ (f : FilterAt). f.at) (filters columns (fn_names fns) before)

  pub numbers_later : (before after : List Statement) → Extends before after → (ns : List ℕ) (ps : List Path) → AreNumbersOf before ns ps → AreNumbersOf after ns ps
  numbers_later before after e = at_kept _ (filters columns (fn_names fns) before) (filters columns (fn_names fns) after) (filter_kept columns (fn_names fns) before after e)

  -- all of a list's from n on
  all_numbers : (before : List Statement) (n : ℕ) (done fs : List FilterAt) → filters columns (fn_names fns) before ≡ done ++ fs → length done ≡ n → AreNumbersOf before (numbers_from n fs) (map (λ (f : FilterAt). f.at) fs)
  all_numbers before n done [] h l = tt
  all_numbers before n done (f ∷ fs) h l =
      let z : n ≡ length done + 0 = omega (arith, l) in (
        (f, ap (λ xs. slice_get xs n) h ∙ next_at done (f ∷ fs) 0 n z, refl),
        all_numbers before (suc n) (done ++ f ∷ []) fs (h ∙ sym (append_assoc done (f ∷ []) fs)) (let c = length-append done (f ∷ []) in omega (arith, c, l)),
      )

  -- the filters of a statement's own and of those above it
  named_numbers : (before : List Statement) (s : Statement) → AreNumbersOf before (filters_on before (parent_of s)) (named_on (path before (parent_of s)))
      → AreNumbersOf (s ∷ before) (filters_on before (parent_of s) ++ own_filter s (length (named_before before))) (named_on (s ∷ path before (parent_of s)))
  named_numbers before (Filter node parent expr (Some label)) h =
      let n : length (named_before before) ≡ length (filters columns (fn_names fns) before) + 0 =
      (let e : length (named_before before) ≡ length (filters columns (fn_names fns) before) = ap length (sym (filters_are columns (fn_names fns) before)) ∙ length-map (filters columns (fn_names fns) before) (λ (f : FilterAt). f.at) in omega (arith, e)) in
      at_append _ (filters columns (fn_names fns) (Filter node parent expr (Some label) ∷ before)) (filters_on before parent) (length (named_before before) ∷ []) (named_on (path before parent)) ((Filter node parent expr (Some label) ∷ path before parent) ∷ [])
      (numbers_later before (Filter node parent expr (Some label) ∷ before) (further (Filter node parent expr (Some label)) itself) (filters_on before parent) (named_on (path before parent)) h)
      ((_, next_at (filters columns (fn_names fns) before) (own_filters columns (fn_names fns) before (Filter node parent expr (Some label))) 0 _ n, refl), tt)
  named_numbers before s h = grind (arith, append-nil, numbers_later, further, itself)

  on_path : (before : List Statement) (node : List ℕ) → AreNumbersOf before (filters_on before node) (named_on (path before node))
  on_path [] node = tt
  on_path (s ∷ before) node =
      by_test (makes s node) (λ e. rw e (named_numbers before s (on_path before (parent_of s))))
      (λ e. rw e (numbers_later before (s ∷ before) (further s itself) (filters_on before node) (named_on (path before node)) (on_path before node)))

  -- the filters that a Report covers, by their numbers
  pub covered_numbers : (before : List Statement) (node : List ℕ) → AreNumbersOf before (covered_at before node) (covered before (path before node))
  covered_numbers before node = go (path before node) (on_path before node)
    where
      same_numbers : (n : ℕ) (fs : List FilterAt) → numbers_from n fs ≡ numbers_from n (map (λ (f : FilterAt). f.at) fs)
      same_numbers n [] = refl
      same_numbers n (f ∷ fs) = ap (λ ns. n ∷ ns) (same_numbers (suc n) fs)

      go : (p : Path) → AreNumbersOf before (filters_on before node) (named_on p) → AreNumbersOf before (all_or p (named_before before) (filters_on before node)) (covered before p)
      go [] h =
          subst (λ (ps : List Path). AreNumbersOf before (numbers_from 0 ps) ps) (filters_are columns (fn_names fns) before)
          (subst (λ (ns : List ℕ). AreNumbersOf before ns (map (λ (f : FilterAt). f.at) (filters columns (fn_names fns) before))) (same_numbers 0 (filters columns (fn_names fns) before))
          (all_numbers before 0 [] (filters columns (fn_names fns) before) refl refl))
      go (s ∷ up) h = h

module _ (M : Type 0) (fns : List Function) (columns : List Column) (row : List Value) (u : Under) (before : List Statement) where
  abbrev site_number : ℕ → Outcome M Value
  site_number = number_value M fns columns row u before

  -- a named filter, with those above it, by the numbers of their sites
  pub filter_is : (earlier : List Statement) → Extends earlier before → (n : ℕ) (f : FilterAt) → slice_get (filters columns (fn_names fns) earlier) n ≡ Some f
      → through fns columns row {M = M} f.at u ≡ through_sites site_number f.sites
  filter_is earlier e n f h =
      each_filter columns (fn_names fns) (λ upto f. Extends upto before → through fns columns row {M = M} f.at u ≡ through_sites site_number f.sites) (λ upto s f next e. next (shorter s upto before e))
      (λ upto node parent expr label e. through_statement M fns columns row u before upto (Filter node parent expr (Some label)) e
      (through_is M fns columns row u before upto (shorter (Filter node parent expr (Some label)) upto before e) parent)) earlier n f h e

module _ (M : Type 0) (fns : List Function) (columns : List Column) (row : List Value) (before : List Statement) where
  -- a report by the numbers of its filters
  pub report_is : (ns : List ℕ) (ps : List Path) → AreNumbersOf fns columns before ns ps
      → report_outcome fns columns row {M = M} ps ≡ report_numbers (number_value M fns columns row None before) (filters columns (fn_names fns) before) ns
  report_is (n ∷ ns) (p ∷ ps) h =
      let f = h.0.0 in
      let one : through fns columns row {M = M} p None ≡ through_filter (number_value M fns columns row None before) (slice_get (filters columns (fn_names fns) before) n) =
      ap (λ q. through fns columns row {M = M} q None) (sym h.0.2) ∙ filter_is M fns columns row None before before itself n f h.0.1 ∙ ap (through_filter (number_value M fns columns row None before)) (sym h.0.1) in
      λ i. one i >>= λ passed. report_is ns ps h.1 i
  report_is ns ps h = grind arith

-- ---- the sites of filters, and the filters that a Report covers, are those of the paths

module _ (header : List Column) (names : FunctionNames) where
  -- each site evaluates the condition at its place
  abbrev Numbered : List Statement → List ℕ → Path → Type 0
  Numbered before ss at = AreAt condition_of (sites header names before) ss (conditions_on at)

  further_list : (before : List Statement) (s : Statement) (ss : List ℕ) (at : Path) → Numbered before ss at → Numbered (s ∷ before) ss at
  further_list before s ss at h = at_kept _ (sites header names before) (sites header names (s ∷ before)) (site_kept header names before (s ∷ before) (further s itself)) ss (conditions_on at) h

  no_filter : (before : List Statement) (s : Statement) (ss : List ℕ) (at : Path) → Numbered before ss at → Numbered (s ∷ before) (ss ++ []) at
  no_filter before s ss at h = subst (λ (ts : List ℕ). Numbered (s ∷ before) ts at) (sym (append-nil ss)) (further_list before s ss at h)

  -- a Filter, and those above it
  with_own : (before : List Statement) (node parent : List ℕ) (expr : _) (label : _) → Numbered before (filter_sites header names before parent) (path before parent)
      → Numbered (Filter node parent expr label ∷ before) (filter_sites header names before parent ++ site_count header names before ∷ []) (Filter node parent expr label ∷ path before parent)
  with_own before node parent expr label h =
      let s : Statement = Filter node parent expr label in
      at_append _ (sites header names (s ∷ before)) (filter_sites header names before parent) (site_count header names before ∷ []) (conditions_on (path before parent)) (record { site = site_at node; at = path before parent; expr = expr } ∷ [])
      (further_list before s (filter_sites header names before parent) (path before parent) h)
      ((site_in header names before parent (site_at node) expr, next_at (sites header names before) (own_sites header names before s) 0 _ (omega arith), refl), tt)

  at_statement : (before : List Statement) (s : Statement) → Numbered before (filter_sites header names before (parent_of s)) (path before (parent_of s))
      → Numbered (s ∷ before) (filter_sites header names before (parent_of s) ++ own_filter_site s (site_count header names before)) (s ∷ path before (parent_of s))
  at_statement before (Filter node parent expr label) h = with_own before node parent expr label h
  at_statement before s h = no_filter before s _ (path before (parent_of s)) h

  -- the sites of the filters above a node
  sites_on_path : (before : List Statement) (node : List ℕ) → Numbered before (filter_sites header names before node) (path before node)
  sites_on_path [] node = tt
  sites_on_path (s ∷ before) node = grind (arith, by_test, at_statement, further_list, sites_on_path before (parent_of s), sites_on_path before node)

-- the sites of a named filter evaluate the filters above it and its own
pub filters_have_sites : FiltersHaveSites
filters_have_sites g n f h =
    at_map _ (graph_sites g) f.sites (conditions_on f.at)
    (each_filter g.header g.names (λ upto f. Numbered g.header g.names upto f.sites f.at) (λ upto s f k. further_list g.header g.names upto s f.sites f.at k)
    (λ upto node parent expr label. with_own g.header g.names upto node parent expr (Some label) (sites_on_path g.header g.names upto parent)) (history g.script) n f h)

-- the sites of an action evaluate the filters above it
pub actions_have_sites : ActionsHaveSites
actions_have_sites g n r k at h is =
    at_map _ (graph_sites g) r.filters (conditions_on at)
    (each_result g.header g.names (λ upto r. r.booked.booking ≡ ActionAt k at → Numbered g.header g.names upto r.filters at) (λ upto s r next q. further_list g.header g.names upto s r.filters at (next q))
    (λ upto result parent kind q. let same : path upto parent ≡ at = cc q in
    subst (Numbered g.header g.names (Action result parent kind ∷ upto) (filter_sites g.header g.names upto parent)) same
    (further_list g.header g.names upto (Action result parent kind) (filter_sites g.header g.names upto parent) (path upto parent) (sites_on_path g.header g.names upto parent)))
    (λ upto result parent q. cc q) (history g.script) n r h is)

-- ---- what a Report covers

-- the filters that a Report covers are those of its booking
pub reports_cover_filters : ReportsCoverFilters
reports_cover_filters script d n r paths h is =
    at_map _ (filters d.columns (fn_names d.fns) (history script)) r.covers paths
    (each_result d.columns (fn_names d.fns) (λ upto r. r.booked.booking ≡ ReportOn paths → AreNumbersOf d.fns d.columns upto r.covers paths)
    (λ upto s r next q. numbers_later d.fns d.columns upto (s ∷ upto) (further s itself) r.covers paths (next q))
    (λ upto result parent k q. cc q)
    (λ upto result parent q. let same : covered upto (path upto parent) ≡ paths = cc q in
    subst (AreNumbersOf d.fns d.columns (Report result parent ∷ upto) (covered_at upto parent)) same
    (numbers_later d.fns d.columns upto (Report result parent ∷ upto) (further (Report result parent) itself) (covered_at upto parent) (covered upto (path upto parent)) (covered_numbers d.fns d.columns upto parent)))
    (history script) n r h is)

pub filters_are_the_scripts : FiltersAreTheScripts
filters_are_the_scripts g = filters_are g.header g.names (history g.script)

-- ---- each result by its numbers comes to what its booking does

module _ (header : List Column) (names : FunctionNames) where
  own_booked : (before : List Statement) (s : Statement) → map (λ (r : ResultAt). r.booked) (own_results header names before s) ≡ booked_by before s
  own_booked before s = grind arith

  -- there is one for each that is booked
  pub booked_are : (before : List Statement) → map (λ (r : ResultAt). r.booked) (results header names before) ≡ bookings before
  booked_are [] = refl
  booked_are (s ∷ before) = grind (arith, map-append, booked_are before, own_booked)

module _ (M : Type 0) (fns : List Function) (columns : List Column) (row : List Value) (u : Under) (before : List Statement) where
  abbrev by_numbers : ResultAt → Outcome M Entry
  by_numbers r = booking_numbers (number_value M fns columns row None before) (number_value M fns columns row u before) (version_value M fns columns row u before) (filters columns (fn_names fns) before) r r.booked.booking

  -- a result of the statements so far, in the whole script
  pub result_is : (earlier : List Statement) → AreAccepted (fn_names fns) (scope_of columns) earlier → Extends earlier before
      → (n : ℕ) (r : ResultAt) → slice_get (results columns (fn_names fns) earlier) n ≡ Some r → booking_outcome fns columns row {M = M} r.booked.booking u ≡ by_numbers r
  result_is earlier good e n r h =
      each_result columns (fn_names fns)
      (λ upto r. AreAccepted (fn_names fns) (scope_of columns) upto → Extends upto before → booking_outcome fns columns row {M = M} r.booked.booking u ≡ by_numbers r)
      (λ upto s r next ok f. next ok.1 (shorter s upto before f))
      (λ upto result parent k ok f. action_is M fns columns row u before upto result parent k ok (shorter (Action result parent k) upto before f))
      (λ upto result parent ok f.
      report_is M fns columns row before (covered_at upto parent) (covered upto (path upto parent))
      (numbers_later fns columns upto before (shorter (Report result parent) upto before f) _ _ (covered_numbers fns columns upto parent)))
      earlier n r h good e

-- ---- the loops by numbers are the event loops of the script

pub booked_kept : (before after : List Statement) → Extends before after → (k : ℕ) (b : Booked) → slice_get (bookings before) k ≡ Some b → slice_get (bookings after) k ≡ Some b
booked_kept = kept bookings booked_by (λ before s. refl)

-- the elements of a list stand in another one from a place on
abbrev AreFrom : {A : Type 0} → List A → ℕ → List A → Type 0
AreFrom {A} all n xs = (k : ℕ) (x : A) → slice_get xs k ≡ Some x → slice_get all (n + k) ≡ Some x

first_of : {A : Type 0} (all : List A) (n : ℕ) (x : A) (xs : List A) → AreFrom all n (x ∷ xs) → slice_get all n ≡ Some x
first_of all n x xs h = let e : n ≡ n + 0 = omega arith in ap (slice_get all) e ∙ h 0 x refl

rest_of : {A : Type 0} (all : List A) (n : ℕ) (x : A) (xs : List A) → AreFrom all n (x ∷ xs) → AreFrom all (suc n) xs
rest_of all n x xs h k y q = let e : suc n + k ≡ n + suc k = omega arith in ap (slice_get all) e ∙ h (suc k) y q

module _ (script : List Statement) where
  -- the passes under variations
  varied_are : (n : ℕ) (b : Booked) → slice_get (bookings script) n ≡ Some b → (k : ℕ) (vs : List Variation) → AreFrom (variations script) k vs
      → map (pass_at script) (map (λ v. numbered_pass n (Some v)) (places_from (λ v. result_depends v b.booking) k vs))
      ≡ map (λ p. Some p) (map (λ v. record { result = b; under = Some v }) (filter (λ v. result_depends v b.booking) vs))
  varied_are n b h k [] from = refl
  varied_are n b h k (v ∷ vs) from =
      by_test (result_depends v b.booking) (λ e. rw e (λ i. one i ∷ varied_are n b h (suc k) vs (rest_of (variations script) k v vs from) i))
      (λ e. rw e (varied_are n b h (suc k) vs (rest_of (variations script) k v vs from)))
    where
      one : pass_at script (numbered_pass n (Some k)) ≡ Some (record { result = b; under = Some v })
      one = λ i. option_map (λ (c : Booked). record { result = c; under = first_of (variations script) k v vs from i }) (h i)

  -- the passes of a result
  pub result_are : (n : ℕ) (b : Booked) → slice_get (bookings script) n ≡ Some b → map (pass_at script) (result_passes script n b) ≡ map (λ p. Some p) (passes_of script b)
  result_are n b h = grind (arith, by_test, varied_are)

  -- the passes of the results that pass a test
  passes_are : (test : Booked → Bool) (n : ℕ) (bs : List Booked) → AreFrom (bookings script) n bs → map (pass_at script) (passes_from script test n bs) ≡ map (λ p. Some p) (loop_passes script (filter test bs))
  passes_are test n [] from = refl
  passes_are test n (b ∷ bs) from =
      let next = passes_are test (suc n) bs (rest_of (bookings script) n b bs from) in
      by_test (test b)
      (λ e. rw e (map-append (pass_at script) (result_passes script n b) (passes_from script test (suc n) bs) ∙ (λ i. result_are n b (first_of (bookings script) n b bs from) i ++ next i)
      ∙ sym (map-append (λ (p : Pass). Some p) (passes_of script b) (flat_map (passes_of script) (filter test bs)))))
      (λ e. rw e next)

  fills_append : (xs : List Access) (x : Access) → filter_map (λ (a : Access). a.fills) (xs ++ x ∷ []) ≡ filter_map (λ (a : Access). a.fills) xs ++ filter_map (λ (a : Access). a.fills) (x ∷ [])
  fills_append xs x = filter_map-append (λ (a : Access). a.fills) xs (x ∷ [])

  abbrev decoded : List (List NumberedPass) → List (List (Option Pass))
  decoded ls = map (map (pass_at script)) ls

  abbrev wanted : List (List Booked) → List (List (Option Pass))
  wanted rs = map (λ results. map (λ p. Some p) (loop_passes script results)) rs

  -- each loop has the passes of the results that it fills
  pub loops_are : (before : List Statement) → Extends before script → decoded (loops script before) ≡ wanted (loop_results before)
  loops_are [] e = refl
  loops_are (Print result ∷ before) e =
      map-append (map (pass_at script)) (loops script before) (own_loop script before (Print result))
      ∙ (λ i. loops_are before (shorter (Print result) before script e) i ++ go (among result (filled before)) i)
      ∙ sym (map-append (λ results. map (λ (p : Pass). Some p) (loop_passes script results)) (loop_results before) (filter_map (λ (a : Access). a.fills) (record { result = result; fills = filled_by before result } ∷ [])))
      ∙ ap wanted (sym (fills_append (accesses before) (record { result = result; fills = filled_by before result })))
    where
      go : (b : Bool) → decoded (if b then [] else passes_from script (λ (b : Booked). not (among b.name (filled before))) 0 (bookings before) ∷ [])
          ≡ wanted (filter_map (λ (a : Access). a.fills) (record { result = result; fills = (if b then None else Some (waiting before)) } ∷ []))
      go b = grind (arith, passes_are, booked_kept, shorter)
  loops_are (s ∷ before) e = ap decoded (append-nil (loops script before)) ∙ loops_are before (shorter s before script e)

-- ---- for each Print its loop

loops_kept : (before after : List Statement) → Extends before after → (k : ℕ) (x : List Booked) → slice_get (loop_results before) k ≡ Some x → slice_get (loop_results after) k ≡ Some x
loops_kept before after itself k x h = h
loops_kept before after (further {after = c} s e) k x h = grind (arith, filter_map-append, kept_at, loops_kept before c e k x h)

module _ (script : List Statement) where
  abbrev run_results : List (Option ℕ) → List (Option (List Booked))
  run_results os = map (λ (o : Option ℕ). option_and_then (slice_get (loop_results script)) o) os

  -- each Print runs the loop of the results that it fills
  pub runs_are : (before : List Statement) → Extends before script → map (λ (a : Access). a.fills) (accesses before) ≡ run_results (runs before)
  runs_are [] e = refl
  runs_are (Print result ∷ before) e =
      map-append (λ (a : Access). a.fills) (accesses before) (record { result = result; fills = filled_by before result } ∷ [])
      ∙ (λ i. runs_are before (shorter (Print result) before script e) i ++ go (among result (filled before)) (loops_kept (Print result ∷ before) script e (length (loop_results before)) (waiting before)) i)
      ∙ sym (map-append (λ (o : Option ℕ). option_and_then (slice_get (loop_results script)) o) (runs before) (own_run before (Print result)))
    where
      go : (b : Bool) → (slice_get (filter_map (λ (a : Access). a.fills) (accesses before ++ record { result = result; fills = (if b then None else Some (waiting before)) } ∷ [])) (length (loop_results before)) ≡ Some (waiting before) → slice_get (loop_results script) (length (loop_results before)) ≡ Some (waiting before))
          → map (λ (a : Access). a.fills) (record { result = result; fills = (if b then None else Some (waiting before)) } ∷ []) ≡ run_results ((if b then None else Some (length (loop_results before))) ∷ [])
      go true h = refl
      go false h =
          let a : Access = record { result = result; fills = Some (waiting before) } in
          let q : slice_get (filter_map (λ (b : Access). b.fills) (accesses before ++ a ∷ [])) (length (loop_results before)) ≡ Some (waiting before) =
          ap (λ (rs : List (List Booked)). slice_get rs (length (loop_results before))) (fills_append script (accesses before) a) ∙ next_at (loop_results before) (waiting before ∷ []) 0 (length (loop_results before)) (omega arith) in
          ap (λ o. o ∷ []) (sym (h q))
  runs_are (s ∷ before) e = runs_are before (shorter s before script e) ∙ ap run_results (sym (append-nil (runs before)))
