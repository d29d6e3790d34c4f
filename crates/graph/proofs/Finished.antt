-- What a booked graph, or a refusal, says of the verdict, and the fields of a finished graph.
use Rattle.lemmas.proofs.{◌≡◌, ℕ, suc, ◌+◌, List, [], ◌∷◌, ◌++◌, length, if◌then◌else◌, refl, sym, ◌∙◌, ap, ◌≤◌, arith, ◌-◌, ◌<◌, map, Some, slice_get, option_to_list, zero, None, subst, Err, Ok, Option, Result, inl, inr, option_map, reverse, length-append, ◌*◌, Bool, false, nat_lt, ◌||◌, take, Decides, IfOk, OnOk, AllByRecursion, AllZip-long, kept_at, length-map, map-append, same_some, slice_get_within, All, All-map, All-permutation, IsPermutation-reverse, length-reverse, map_next, recursion_from_All, reverse-append, reverse-reverse, slice_get-map, AllZip, Decides-ltb, filter, sum_by, sum_by-append, sum_by-cons, take_all, All-weaker}
use Rattle.rdf_values.specs.{ColType, Column, FunctionNames, makes, NamedTree, parent_of, Statement, IsShort, Line, named_before, AreAccepted, check_target, first_refusal, GraphCause, is_alias, is_visible, path, refuse_if, refuse_unless, scope_at, scope_of, variations, VaryValues, check, history, Scope, Script, verdict, verdict_after, Booked, bookings, IsBookable, IsHeader, result_depends, ActionAt, ActionKind, Booking, cells_of, check_columns, check_edges, check_node, check_passes, check_results, check_tags, check_values, columns_of, is_variation_name, over_passes, own_variations, passes_of, permitted_kinds, printed_results, repeats, results_named, same, takes_of, Variation, varied_passes, booked_by, kind_of, kind_or_int, refusal_in}
use Rattle.rdf_values.specs.declared.scripts.statement.Statement.TheVariants.{Filter, Print, Action, Vary, Define, Redefine}
use Rattle.expr_check.specs.{CheckedExpr}
use Rattle.graph_numbers.specs.{filter_sites, list_sites, lists_sites, own_filter_site, own_sites, site_count as count_of_sites, SiteAt, sites, FilterAt, filters, own_filters, version_count, cell_versions, list_start, named_version, numbers_from, own_versions, varied_version, varied_versions, Version, version_at, version_kinds, versions, booked_unless, GraphView, booked, booked_statements, graph_results, graph_sources, holds_at, IsGraph, kind_of_booking, ResultAt, graph_filters, graph_sites, IsSiteExpr, result_depends_at, site_depends_at, own_results, own_kinds, site_in}
use Rattle.graph.specs.{AreSites, expression_total, filter_numbers, is_filter, IsSite, own_number, own_site_total, site_total, AreTables, labels, own_label, statements, AreAbove, IsAbove, GraphRefusal, refused_at, IsRefusal, refused, refused_then, AreLoops, AreRowsOf, AreSourcesOf, IsBooked, IsRow, IsRowOf, result_sets, view_of, filler_of, has, IsSet, paths, result_path, VarSet, action_set, any_has, AreRows, BeginsWith, Decides as Settles, depends_at, IsAmount, IsBookedRow, members_below, Numbers, printed_rows, row_passes, rows_named, all_expressions, AllCheckedAt, AreSets, changed_set, Gives, GrowBy, is_among_own, IsCheckedAt, IsEmptyGain, IsFilterGain, IsGain, IsMadeGain, IsRowGain, IsVaryGain, named_rows, own_result_sets, own_site_sets, own_version_sets, read_sets, site_set, value_expressions, varied_set, version_sets}
use Rattle.graph_numbers.proofs.Placing.{list_count, sites_few, next_at, joined, only_at, versions_count}
use Rattle.graph_numbers.proofs.Placing.{kind_count, visible_kind}
use Rattle.graph.specs.declared.tables.Tables.{Tables}
use Rattle.graph.proofs.Walking.{named_more}
use Rattle.rdf_values.specs.declared.scripts.statement.VaryValues.TheVariants.{Lists, Vector}
use Rattle.rdf_model.proofs.Accepted.{both_none, checked_of, if_fails, no_target, unless_holds, visible_known, onto}
use Rattle.rdf_values.specs.Answered.{Refuses}
use Rattle.rdf_model.specs.{Access, accesses, filled_by, loop_of, Site, site_at}
use Rattle.graph_numbers.proofs.Covering.{booked_are}
use Rattle.graph.specs.declared.tables.ResultRow.{ResultRow}
use Rattle.graph.specs.declared.loops.LoopTables.{LoopTables}
use Rattle.graph.proofs.Depending.{results_depend, site_set_count as sets_counted, sites_depend, action_is, known_at, result_is, tags_count}
use Rattle.graph.proofs.Looped.{bookings_few, in_bounds, loops_few, unwrapped, begins_further}
use Rattle.graph.proofs.Listing.{zip_by, zip_at, row_set, set_at, zip_both, zip_first, sets_any, sets_at, sets_same, sites_read}
use Rattle.graph_numbers.proofs.Origins.{version_source}
use Rattle.graph.specs.declared.tables.ResultPath.{ResultPath}
use Rattle.rdf_values.specs.declared.scripts.script_cause.GraphCause.TheVariants.{TooMany}
use Rattle.graph.specs.declared.amounts.Amounts.{Amounts}
use Rattle.graph.specs.declared.refusals.Stop.{Stop}
use Rattle.graph.specs.declared.tables.Change.{Change}

-- ---- how many sites, versions, variations and named filters there are, and that walks down the Varys of a column end

pub sites_counted : (kinds : List ColType) (names : FunctionNames) (xs : List SiteAt) (cs : List CheckedExpr) → AreSites kinds names xs cs → length cs ≡ length xs
sites_counted kinds names xs cs h = AllZip-long (IsSite kinds names) xs cs h

module _ (header : List Column) (names : FunctionNames) where
  lists_count : (before : List Statement) (parent node : List ℕ) (i : ℕ) (lists : List (List NamedTree)) → length (lists_sites header names before parent node i lists) ≡ expression_total lists
  lists_count before parent node i [] = refl
  lists_count before parent node i (es ∷ lists) =
      length-append (list_sites header names before parent node i 0 es) (lists_sites header names before parent node (suc i) lists)
      ∙ (λ j. list_count header names before parent node i 0 es j + lists_count before parent node (suc i) lists j)

  own_total_is : (before : List Statement) (s : Statement) → length (own_sites header names before s) ≡ own_site_total s
  own_total_is before s = grind (arith, lists_count)

  pub total_is : (before : List Statement) → count_of_sites header names before ≡ site_total before
  total_is [] = refl
  total_is (s ∷ before) = length-append (sites header names before) (own_sites header names before s) ∙ (λ i. total_is before i + own_total_is before s i)

  own_number_is : (s : Statement) (next : ℕ) → own_number (is_filter s) next ≡ own_filter_site s next
  own_number_is (Filter node parent expr label) next = refl
  own_number_is s next = refl

  pub numbers_are : (before : List Statement) (node : List ℕ) → filter_numbers before node ≡ filter_sites header names before node
  numbers_are [] node = refl
  numbers_are (s ∷ before) node =
      λ i. if makes s node then numbers_are before (parent_of s) i ++ (ap (own_number (is_filter s)) (sym (total_is before)) ∙ own_number_is s (count_of_sites header names before)) i else numbers_are before node i

pub labels_are : (header : List Column) (names : FunctionNames) (before : List Statement) → map (λ (f : FilterAt). f.label) (filters header names before) ≡ labels before
labels_are header names [] = refl
labels_are header names (s ∷ before) = labels_joined (filters header names before) (own_filters header names before s) ∙ (λ i. labels_are header names before i ++ own s i)
  where
    labels_joined : (xs ys : List FilterAt) → map (λ (f : FilterAt). f.label) (xs ++ ys) ≡ map (λ (f : FilterAt). f.label) xs ++ map (λ (f : FilterAt). f.label) ys
    labels_joined xs ys = map-append (λ (f : FilterAt). f.label) xs ys

    own : (s : Statement) → map (λ (f : FilterAt). f.label) (own_filters header names before s) ≡ option_to_list (own_label s)
    own (Filter node parent expr (Some label)) = refl
    own s = refl

pub labels_count : (before : List Statement) → length (named_before before) ≡ length (labels before)
labels_count [] = refl
labels_count (Filter node parent expr (Some label) ∷ before) = length-append (named_before before) _ ∙ ap (λ n. n + 1) (labels_count before) ∙ sym (length-append (labels before) (label ∷ []))
labels_count (s ∷ before) = let h = labels_count before in let n = length-append (labels before) [] in omega (arith, h, n)

-- the latest named filter's
pub last_label : (lines : List Line) (l : Line) (rest : List Line) (f count : ℕ) (x : List ℕ) → lines ≡ l ∷ rest → own_label l.statement ≡ Some x → count ≡ length (named_before (statements lines)) → f < count → f ≡ count - 1
    → slice_get (labels (statements lines)) f ≡ Some x
last_label lines l rest f count x e own all lt is =
    ap (λ ls. slice_get (labels (statements ls)) f) e ∙ ap (λ o. slice_get (labels (statements rest) ++ option_to_list o) f) own
    ∙ next_at (labels (statements rest)) (x ∷ []) 0 f place
  where
    total : count ≡ length (labels (statements rest)) + 1
    total = grind (arith, labels_count, own, length-append)

    place : f ≡ length (labels (statements rest)) + 0
    place = let t = total in omega (arith, t, is)

-- an earlier one's
pub label_before : (lines : List Line) (l : Line) (rest : List Line) (f : ℕ) (x : List ℕ) → lines ≡ l ∷ rest → slice_get (labels (statements rest)) f ≡ Some x → slice_get (labels (statements lines)) f ≡ Some x
label_before lines l rest f x e h = ap (λ ls. slice_get (labels (statements ls)) f) e ∙ kept_at (labels (statements rest)) (option_to_list (own_label l.statement)) f x h

pub named_few : (before : List Statement) → length (named_before before) ≤ length before
named_few [] = omega arith
named_few (s ∷ before) = let n = named_few before in let m = named_more s before in grind (arith, n, m)

module _ (header : List Column) (names : FunctionNames) (before : List Statement) (t : Tables) (h : AreTables header names before t) where
  pub versions_are : length t.kinds.items ≡ version_count header before
  versions_are = ap length h.versions.are ∙ kind_count header names before

  pub sites_are : length t.sites.items ≡ count_of_sites header names before
  sites_are = sites_counted _ names (sites header names before) t.sites.items h.sites

  pub sites_fit : AllByRecursion IsShort before → length before ≤ 256 → length t.sites.items ≤ 16777216
  sites_fit short few = grind (arith, sites_few, sites_counted)

  pub filters_are : length t.filters.items ≡ length (named_before before)
  filters_are =
      ap length h.filters ∙ length-map (filters header names before) (λ (f : FilterAt). f.sites) ∙ sym (length-map (filters header names before) (λ (f : FilterAt). f.label))
      ∙ ap length (labels_are header names before) ∙ sym (labels_count before)

  pub filters_few : length t.filters.items ≤ length before
  filters_few = let n = filters_are in let f = named_few before in omega (arith, n, f)

-- ---- Each version stands above the version below it, so that a walk down the Varys of a column ends.

numbers_count : {A : Type 0} (n : ℕ) (xs : List A) → length (numbers_from n xs) ≡ length xs
numbers_count n [] = refl
numbers_count n (x ∷ xs) = ap suc (numbers_count (suc n) xs)

module _ (header : List Column) (names : FunctionNames) where
  -- a column that may be changed has a version
  below_within : (before : List Statement) → AreAccepted names (scope_of header) before → (parent name : List ℕ) → check_target (scope_at names (scope_of header) before parent) (path before parent) name ≡ None
      → named_version header before parent name < version_count header before
  below_within before ok parent name h =
      let scope = scope_at names (scope_of header) before parent in
      let d = both_none (refuse_unless (is_visible scope name) GraphCause.UnknownColumn) (refuse_if (is_alias (path before parent) name) GraphCause.AliasTarget ∷ []) h in
      let known = visible_known scope name (unless_holds (is_visible scope name) GraphCause.UnknownColumn d.0) in
      let own = no_target (path before parent) name (if_fails (is_alias (path before parent) name) GraphCause.AliasTarget (both_none (refuse_if (is_alias (path before parent) name) GraphCause.AliasTarget) [] d.1).0) in
      let lt = slice_get_within (version_kinds header names before) (version_at header before parent name) known.0 (visible_kind header names before ok parent name known.0 known.1) in
      let n = kind_count header names before in
      let m : version_at header before parent name ≡ named_version header before parent name = ap (named_version header before parent) own in
      omega (arith, lt, n, m)

  varied_above : (values : VaryValues) (below first site i c : ℕ) (tags : List (List ℕ)) → below < c → IsAbove c (varied_version header names values below first site tags i)
  varied_above (Lists ls) below first site i c tags lt = (lt, numbers_count (site + list_start ls i) tags)
  varied_above (Vector e) below first site i c tags lt = (lt, refl)

  vary_above : (before : List Statement) → AreAccepted names (scope_of header) before → (parent : List ℕ) (values : VaryValues) (tags : List (List ℕ)) (c : ℕ) → version_count header before ≤ c → (cs : List (List ℕ)) (i k : ℕ) (x : Version)
      → first_refusal (map (check_target (scope_at names (scope_of header) before parent) (path before parent)) cs) ≡ None → slice_get (varied_versions header names before parent values tags i cs) k ≡ Some x → IsAbove c x
  vary_above before ok parent values tags c le [] i k x free h = cc h
  vary_above before ok parent values tags c le (name ∷ cs) i zero x free h =
      let lt = below_within before ok parent name (both_none _ _ free).0 in
      subst (IsAbove c) (same_some h) (varied_above values (named_version header before parent name) (length (variations before)) (count_of_sites header names before) i c tags (omega (arith, lt, le)))
  vary_above before ok parent values tags c le (name ∷ cs) i (suc k) x free h =
      vary_above before ok parent values tags c le cs (suc i) k x (both_none (check_target (scope_at names (scope_of header) before parent) (path before parent) name) _ free).1 h

  own_above : (before : List Statement) (s : Statement) → AreAccepted names (scope_of header) (s ∷ before) → (k c : ℕ) (x : Version) → version_count header before ≤ c → slice_get (own_versions header names before s) k ≡ Some x → IsAbove c x
  own_above before s ok k c x le h = grind (arith, only_at, vary_above, checked_of)

  cell_above : (n d c : ℕ) (cs : List Column) (x : Version) → slice_get (cell_versions header names n cs) d ≡ Some x → IsAbove c x
  cell_above n d c [] x h = cc h
  cell_above n zero c (e ∷ cs) x h = subst (IsAbove c) (same_some h) tt
  cell_above n (suc d) c (e ∷ cs) x h = cell_above (suc n) d c cs x h

  pub versions_above : (before : List Statement) → AreAccepted names (scope_of header) before → AreAbove (versions header names before)
  versions_above [] ok c x h = cell_above 0 c c header x h
  versions_above (s ∷ before) ok c x h =
      joined (versions header names before) (own_versions header names before s) c x h (λ q. versions_above before ok.1 c x q)
      (λ k is q. let n = versions_count header names before in own_above before s ok k c x (omega (arith, n, is)) q)

pub refusal_of : (wanted : Result GraphView (ℕ × GraphCause)) (line : ℕ) (cause : GraphCause) → Refuses refused_at GraphRefusal.Memory wanted (GraphRefusal.At line cause) → wanted ≡ Err (line, cause)
refusal_of wanted line cause (inl e) = absurd (cc e)
refusal_of wanted line cause (inr h) = grind arith

pub refused_verdict : (g : GraphView) (v : Option (ℕ × GraphCause)) (c : ℕ × GraphCause) → ◌≡◌ {A = Result GraphView (ℕ × GraphCause)} (booked_unless g v) (Err c) → v ≡ Some c
refused_verdict g None c e = absurd (cc e)
refused_verdict g (Some d) c e = cc e

pub accepted_verdict : (g h : GraphView) (v : Option (ℕ × GraphCause)) → ◌≡◌ {A = Result GraphView (ℕ × GraphCause)} (booked_unless g v) (Ok h) → (v ≡ None) × (h ≡ g)
accepted_verdict g h None e = (refl, (cc e))
accepted_verdict g h (Some d) e = absurd (cc e)

-- ---- The first line that is refused, the fields of a finished graph, and what they say of its numbers.

map_back : {A B : Type 0} (f : A → B) (xs : List A) → map f (reverse xs) ≡ reverse (map f xs)
map_back f [] = refl
map_back f (x ∷ xs) = ap (map f) (reverse-append (x ∷ []) xs) ∙ map_next f (reverse xs) x ∙ ap (λ ys. ys ++ f x ∷ []) (map_back f xs) ∙ sym (reverse-append (f x ∷ []) (map f xs))

-- the statements of a script's lines, the latest first
pub history_is : (script : Script) (ls : List Line) → ls ≡ reverse script.lines → statements ls ≡ history script
history_is script ls e = ap statements e ∙ map_back (λ (l : Line). l.statement) script.lines

module _ (names : FunctionNames) (header : Scope) where
  -- the refusal of one more line at the end
  verdict_more : (ls : List Line) (before : List Statement) (l : Line) → verdict_after names header before (ls ++ l ∷ []) ≡ refused_then l.number (verdict_after names header before ls) (check names header (onto ls before) l.statement)
  verdict_more [] before l = grind arith
  verdict_more (k ∷ ls) before l = grind (arith, verdict_more ls (k.statement ∷ before) l)

  onto_back : (ls : List Line) → onto (reverse ls) [] ≡ statements ls
  onto_back ls = ap (λ (xs : List Statement). reverse xs) (map_back (λ (l : Line). l.statement) ls) ∙ reverse-reverse (statements ls)

  -- the first refusal of the lines in order
  pub verdict_is : (ls : List Line) → verdict_after names header [] (reverse ls) ≡ refused names header ls
  verdict_is [] = refl
  verdict_is (l ∷ ls) =
      ap (verdict_after names header []) (reverse-append (l ∷ []) ls) ∙ verdict_more (reverse ls) [] l
      ∙ (λ i. refused_then l.number (verdict_is ls i) (check names header (onto_back ls i) l.statement))

  -- a refusal is none where the statements were accepted
  pub none_refused : (ls : List Line) → AreAccepted names header (statements ls) → refused names header ls ≡ None
  none_refused [] h = refl
  none_refused (l ∷ ls) h = (λ i. refused_then l.number (none_refused ls h.1 i) (h.0 i))

pub verdict_of : (names : FunctionNames) (header : List Column) (script : Script) (ls : List Line) → ls ≡ reverse script.lines → refused names (scope_of header) ls ≡ verdict names header script
verdict_of names header script ls e =
    sym (verdict_is names (scope_of header) ls) ∙ ap (verdict_after names (scope_of header) []) (ap (λ (xs : List Line). reverse xs) e ∙ reverse-reverse script.lines)

pub empty : {A : Type 0} (xs : List A) → length xs ≡ 0 → [] ≡ xs
empty [] h = refl
empty (x ∷ xs) h = absurd (omega (arith, h))

-- ---- the statements of a graph's lines

pub history_of : (ls : List Line) (header : List Column) (names : FunctionNames) → statements ls ≡ booked_statements (view_of ls header names)
history_of ls header names = history_is (record { lines = reverse ls }) ls (sym (reverse-reverse ls))

-- the script of lines that were turned round
script_again : (script : Script) (ls : List Line) → ls ≡ reverse script.lines → ◌≡◌ {A = Script} script (record { lines = reverse ls })
script_again script ls e = λ i. record { lines = (sym (reverse-reverse script.lines) ∙ ap (λ (xs : List Line). reverse xs) (sym e)) i }

pub graph_is : (script : Script) (ls : List Line) (header : List Column) (names : FunctionNames) → ls ≡ reverse script.lines → IsBookable script → IsHeader header → AreAccepted names (scope_of header) (statements ls) → IsGraph (view_of ls header names)
graph_is script ls header names e bookable head ok = grind (arith, script_again, verdict_of, none_refused)

pub refusal_answered : (script : Script) (ls : List Line) (header : List Column) (names : FunctionNames) (r : GraphRefusal) → ls ≡ reverse script.lines → IsRefusal (refused names (scope_of header) ls) r → Refuses refused_at GraphRefusal.Memory (booked script header names) r
refusal_answered script ls header names GraphRefusal.Memory e h = inl refl
refusal_answered script ls header names (GraphRefusal.At line cause) e h =
    inr ((line, cause), refl, ap (booked_unless (record { script = script; header = header; names = names })) (sym (verdict_of names header script ls e) ∙ h))

-- the statements of a script that can be booked are short
pub all_short : (script : Script) (ls : List Line) → ls ≡ reverse script.lines → IsBookable script → AllByRecursion IsShort (statements ls)
all_short script ls e h =
    recursion_from_All IsShort (statements ls)
    (All-map IsShort (λ (l : Line). l.statement) ls
    (subst (All (λ (l : Line). IsShort l.statement)) (sym e) (All-permutation (λ (l : Line). IsShort l.statement) script.lines (reverse script.lines) (IsPermutation-reverse script.lines) h.short)))

-- ---- counts

accesses_few : (before : List Statement) → length (accesses before) ≤ length before
accesses_few [] = omega arith
accesses_few (Print r ∷ before) = let n = accesses_few before in let m = length-append (accesses before) (record { result = r; fills = filled_by before r } ∷ []) in omega (arith, n, m)
accesses_few (s ∷ before) = let n = accesses_few before in omega (arith, n)

-- ---- finishing

module _ (script : Script) (ls : List Line) (header : List Column) (names : FunctionNames) (t : Tables)
    (turned : ls ≡ reverse script.lines) (bookable : IsBookable script) (head : IsHeader header) (h : AreTables header names (statements ls) t) where
  abbrev g : GraphView
  g = view_of ls header names

  graph : IsGraph g
  graph = graph_is script ls header names turned bookable head h.versions.accepted

  few : length ls ≤ 256
  few = let n = ap length turned in let r = length-reverse script.lines in let f = bookable.few in omega (arith, n, r, f)

  tables_of : AreTables header names (booked_statements g) t
  tables_of = subst (λ (x : List Statement). AreTables header names x t) (history_of ls header names) h

  length_here : length (booked_statements g) ≡ length ls
  length_here = sym (ap length (history_of ls header names)) ∙ length-map ls (λ (l : Line). l.statement)

  module _ (loops : LoopTables) (are_loops : AreLoops (statements ls) (statements ls) loops) where
    loops_here : AreLoops (booked_statements g) (booked_statements g) loops
    loops_here = subst (λ (x : List Statement). AreLoops x x loops) (history_of ls header names) are_loops

    made : IsBooked g t loops
    made = record {
      graph = graph;
      tables = tables_of;
      loops = loops_here;
      site_sets = λ s v. sites_depend g graph s v;
      result_sets = λ n v. results_depend g graph n v;
      sources = λ u. subst (λ (vs : List Version). AreSourcesOf vs u (graph_sources g u)) (sym tables_of.version_rows) (version_source header names (booked_statements g) tables_of.versions.accepted u);
      above = subst AreAbove (sym tables_of.version_rows) (versions_above header names (booked_statements g) tables_of.versions.accepted);
      few_results = let n = AllZip-long IsRow _ t.results.items tables_of.results.0 in let f = bookings_few (booked_statements g) in let l = length_here in omega (arith, n, f, l, few);
      few_filters = let n = filters_few header names (booked_statements g) t tables_of in let l = length_here in omega (arith, n, l, few);
      few_prints = let n = ap length loops_here.prints in let f = accesses_few (booked_statements g) in let l = length_here in grind (arith, length-map, n, f, l, few);
      few_loops = let n = ap length loops_here.loops in let f = loops_few (booked_statements g) (booked_statements g) in let l = length_here in omega (arith, n, f, l, few);
      few_sites = sites_fit header names (statements ls) t h (all_short script ls turned bookable) (let k = length-map ls (λ (l : Line). l.statement) in omega (arith, k, few));
      few_versions =
          let n = ap length h.version_rows in let m = versions_count header names (statements ls) in let k = versions_are header names (statements ls) t h in let f = h.versions.few in omega (arith, n, m, k, f);
    }

    -- over the lines as they are kept, and copies of the columns and names
    pub finished : (lines : List Line) (columns : List Column) (functions : FunctionNames) → lines ≡ ls → columns ≡ header → functions ≡ names → IsBooked (view_of lines columns functions) t loops
    finished lines columns functions l c f =
        subst (λ (xs : List Line). IsBooked (view_of xs columns functions) t loops) (sym l)
        (subst (λ (xs : List Column). IsBooked (view_of ls xs functions) t loops) (sym c) (subst (λ (fs : FunctionNames). IsBooked (view_of ls header fs) t loops) (sym f) made))

-- ---- lists

pub twice : {A B C : Type 0} (f : A → B) (g : B → C) (o : Option A) → option_map (λ x. g (f x)) o ≡ option_map g (option_map f o)
twice f g None = refl
twice f g (Some x) = refl

-- an item of a list that stands for another one
of_mapped : {A B C : Type 0} (f : A → B) (g : B → C) (xs : List A) (ys : List B) (n : ℕ) (y : B) → ys ≡ map f xs → slice_get ys n ≡ Some y → option_map (λ x. g (f x)) (slice_get xs n) ≡ Some (g y)
of_mapped f g xs ys n y e h = twice f g (slice_get xs n) ∙ ap (option_map g) (sym (ap (λ zs. slice_get zs n) e ∙ slice_get-map f xs n) ∙ h)

-- ---- the readers

pub booked_now : {v g : GraphView} {t : Tables} {l : LoopTables} → v ≡ g → IsBooked v t l → IsBooked g t l
booked_now {t = t} {l = l} e h = subst (λ (x : GraphView). IsBooked x t l) e h

pub there_too : {A : Type 0} {xs ys : List A} (n : ℕ) {y : A} → xs ≡ ys → slice_get xs n ≡ Some y → slice_get ys n ≡ Some y
there_too n e h = ap (λ zs. slice_get zs n) (sym e) ∙ h

module _ {g : GraphView} {t : Tables} {l : LoopTables} (h : IsBooked g t l) where
  pub row_count : length t.results.items ≡ length (graph_results g)
  row_count = AllZip-long IsRow _ t.results.items h.tables.results.0 ∙ sym (ap length (booked_are g.header g.names (booked_statements g))) ∙ length-map (graph_results g) (λ (x : ResultAt). x.booked)

  pub name_is : (n : ℕ) (row : ResultRow) → slice_get t.results.items n ≡ Some row → option_map (λ (x : ResultAt). x.booked.name) (slice_get (graph_results g) n) ≡ Some row.name
  name_is n row q =
      let r = zip_at IsRow _ t.results.items n row h.tables.results.0 q in
      of_mapped (λ (x : ResultAt). x.booked) (λ (b : Booked). b.name) (graph_results g) (bookings (booked_statements g)) n r.0 (sym (booked_are g.header g.names (booked_statements g))) r.1 ∙ ap Some (sym r.2.name)

  pub set_is : (n : ℕ) (row : ResultRow) → slice_get t.results.items n ≡ Some row → (v : ℕ) → has row.set v ≡ result_depends_at g n v
  set_is n row q v = row_set _ _ t.results.items h.tables.results n row q v ∙ h.result_sets n v

  path_is : {B : Type 0} (f : ResultPath → B) (n : ℕ) (row : ResultRow) → slice_get t.results.items n ≡ Some row → option_map (λ (x : ResultAt). f (result_path x)) (slice_get (graph_results g) n) ≡ Some (f row.path)
  path_is f n row q = of_mapped result_path f (graph_results g) (paths t.results.items) n row.path h.tables.paths (slice_get-map (λ (r : ResultRow). r.path) t.results.items n ∙ ap (option_map (λ (r : ResultRow). r.path)) q)

  pub kind_is : (n : ℕ) (row : ResultRow) → slice_get t.results.items n ≡ Some row → option_map (λ (x : ResultAt). kind_of_booking x.booked.booking) (slice_get (graph_results g) n) ≡ Some row.path.kind
  kind_is n row q = path_is (λ (p : ResultPath). p.kind) n row q

  pub path_filters : (n : ℕ) (row : ResultRow) → slice_get t.results.items n ≡ Some row → option_map (λ (x : ResultAt). x.filters) (slice_get (graph_results g) n) ≡ Some row.path.filters
  path_filters n row q = path_is (λ (p : ResultPath). p.filters) n row q

  pub path_inputs : (n : ℕ) (row : ResultRow) → slice_get t.results.items n ≡ Some row → option_map (λ (x : ResultAt). x.inputs) (slice_get (graph_results g) n) ≡ Some row.path.inputs
  path_inputs n row q = path_is (λ (p : ResultPath). p.inputs) n row q

  pub path_covers : (n : ℕ) (row : ResultRow) → slice_get t.results.items n ≡ Some row → option_map (λ (x : ResultAt). x.covers) (slice_get (graph_results g) n) ≡ Some row.path.covers
  path_covers n row q = path_is (λ (p : ResultPath). p.covers) n row q

  -- ---- Prints and loops

  pub filling_is : (p n : ℕ) → slice_get l.filling.items p ≡ Some n → option_map (λ (a : Access). loop_of (booked_statements g) a.result) (slice_get (accesses (booked_statements g)) p) ≡ Some n
  filling_is p n q =
      sym (slice_get-map (λ (a : Access). loop_of (booked_statements g) a.result) (accesses (booked_statements g)) p)
      ∙ ap (λ xs. slice_get xs p) (sym (unwrapped (λ (a : Access). filler_of (booked_statements g) a.result) l.filling.items (accesses (booked_statements g)) h.loops.filling)) ∙ q

  -- ---- named filters

  pub label_count : length t.filters.items ≡ length (named_before (booked_statements g))
  label_count = filters_are g.header g.names (booked_statements g) t h.tables

  pub label_is : (n : ℕ) (x : List ℕ) → slice_get (labels (booked_statements g)) n ≡ Some x → option_map (λ (f : FilterAt). f.label) (slice_get (graph_filters g) n) ≡ Some x
  label_is n x q = sym (slice_get-map (λ (f : FilterAt). f.label) (graph_filters g) n) ∙ ap (λ xs. slice_get xs n) (labels_are g.header g.names (booked_statements g)) ∙ q

  -- ---- sites and versions

  pub site_count : length t.sites.items ≡ length (graph_sites g)
  site_count = sites_counted _ g.names (graph_sites g) t.sites.items h.tables.sites

  pub site_set_count : length t.site_sets.items ≡ length (graph_sites g)
  site_set_count = AllZip-long IsSet _ t.site_sets.items h.tables.site_sets ∙ sets_counted g.header g.names (booked_statements g)

  pub site_is : (n : ℕ) (c : CheckedExpr) → slice_get t.sites.items n ≡ Some c → IsSiteExpr g n c
  site_is n c q = grind (arith, zip_at)

  pub site_set_is : (n : ℕ) (s : VarSet) → slice_get t.site_sets.items n ≡ Some s → (v : ℕ) → has s v ≡ site_depends_at g n v
  site_set_is n s q v = set_at _ t.site_sets.items h.tables.site_sets n s q v ∙ h.site_sets n v

-- ---- counts over the passes of results, by their rows: how many members

module _ {A : Type 0} (p : A → Bool) where
  filter_next : (k : ℕ) (xs : List A) → length (filter p (take (suc k) xs)) ≡ length (filter p (take k xs)) + (if holds_at p (slice_get xs k) then 1 else 0)
  filter_next zero [] = refl
  filter_next zero (x ∷ xs) = grind arith
  filter_next (suc k) [] = refl
  filter_next (suc k) (x ∷ xs) = grind (arith, filter_next k xs)

  members_first : (xs : List A) (s : VarSet) → ((v : ℕ) → has s v ≡ holds_at p (slice_get xs v)) → (k : ℕ) → members_below s k ≡ length (filter p (take k xs))
  unfolding members_below
  members_first xs s h zero = refl
  members_first xs s h (suc k) = let a = members_first xs s h k in let b = filter_next k xs in let e = h k in grind (arith, a, b, e)

  -- the places of the elements that pass a test, counted
  set_counted : (xs : List A) (s : VarSet) → length xs ≤ 128 → ((v : ℕ) → has s v ≡ holds_at p (slice_get xs v)) → members_below s 128 ≡ length (filter p xs)
  set_counted xs s le h = members_first xs s h 128 ∙ ap (λ ys. length (filter p ys)) (take_all 128 xs le)

-- ---- passes

module _ (script : List Statement) where
  -- the row of a result, as the whole script counts it
  pub record IsPassed (b : Booked) (r : ResultRow) : Type 0 where
    pub name : r.name ≡ b.name
    pub cells : r.cells ≡ cells_of b.booking
    pub takes : r.takes ≡ takes_of b.booking
    pub varied : members_below r.set 128 ≡ length (filter (λ v. result_depends v b.booking) (variations script))

  abbrev pub AllPassed : List Booked → List ResultRow → Type 0
  AllPassed bs rs = AllZip IsPassed bs rs

  passes_counted : (b : Booked) (r : ResultRow) → IsPassed b r → length (passes_of script b) ≡ row_passes script r
  passes_counted b r h =
      let many : length (varied_passes script b) ≡ members_below r.set 128 =
      length-map (filter (λ v. result_depends v b.booking) (variations script)) (λ (v : Variation). record { result = b; under = Some v }) ∙ sym h.varied in
      let name = h.name in grind (arith, many, name)

  over_rows : (count : Booking → ℕ) (field : ResultRow → ℕ) → ((b : Booked) (r : ResultRow) → IsPassed b r → field r ≡ count b.booking) → (bs : List Booked) (rs : List ResultRow) → AllPassed bs rs
      → sum_by (λ (r : ResultRow). row_passes script r * field r) rs ≡ over_passes count script bs
  over_rows count field each [] [] h = refl
  over_rows count field each [] (r ∷ rs) h = elim h [ ]
  over_rows count field each (b ∷ bs) [] h = elim h [ ]
  over_rows count field each (b ∷ bs) (r ∷ rs) h =
      sum_by-cons (λ (q : ResultRow). row_passes script q * field q) r rs
      ∙ (λ i. sym (passes_counted b r h.0) i * each b r h.0 i + over_rows count field each bs rs h.1 i)
      ∙ sym (sum_by-cons (λ (c : Booked). length (passes_of script c) * count c.booking) b bs)

  -- the check of passes by the rows
  pub passes_checked : (bs : List Booked) (rs : List ResultRow) → AllPassed bs rs → (a : Amounts) → IsAmount script rs a → (x : Option GraphCause)
      → x ≡ first_refusal (refuse_if (nat_lt 1048576 a.cells) TooMany ∷ refuse_if (nat_lt 16 a.takes) TooMany ∷ []) → x ≡ check_passes script bs
  passes_checked bs rs h a m x e =
      let c : a.cells ≡ over_passes cells_of script bs = m.cells ∙ over_rows cells_of (λ (r : ResultRow). r.cells) (λ b r k. k.cells) bs rs h in
      let t : a.takes ≡ over_passes takes_of script bs = m.takes ∙ over_rows takes_of (λ (r : ResultRow). r.takes) (λ b r k. k.takes) bs rs h in
      e ∙ λ i. first_refusal (refuse_if (nat_lt 1048576 (c i)) TooMany ∷ refuse_if (nat_lt 16 (t i)) TooMany ∷ [])

  -- the rows of both
  pub amounts_both : (rs qs : List ResultRow) (a b x : Amounts) → IsAmount script rs a → IsAmount script qs b → (x.cells ≡ a.cells + b.cells) × (x.takes ≡ a.takes + b.takes) → IsAmount script (rs ++ qs) x
  amounts_both rs qs a b x h k e = grind (arith, sum_by-append)

  pub passed_both : (bs cs : List Booked) (rs ss : List ResultRow) → AllPassed bs rs → AllPassed cs ss → AllPassed (bs ++ cs) (rs ++ ss)
  passed_both bs cs rs ss h k = zip_both IsPassed bs cs rs ss h k

  named_passed : (name : List ℕ) (bs : List Booked) (rs : List ResultRow) → AllPassed bs rs → AllPassed (results_named name bs) (rows_named name rs)
  named_passed name [] [] h = tt
  named_passed name [] (r ∷ rs) h = elim h [ ]
  named_passed name (b ∷ bs) [] h = elim h [ ]
  named_passed name (b ∷ bs) (r ∷ rs) h = go (same b.name name) (same r.name name) (ap (λ n. same n name) h.0.name) (named_passed name bs rs h.1)
    where
      go : (x y : Bool) → y ≡ x → AllPassed (results_named name bs) (rows_named name rs)
          → AllPassed (if x then b ∷ results_named name bs else results_named name bs) (if y then r ∷ rows_named name rs else rows_named name rs)
      go x y e k = grind arith

  -- the rows of the printed results are theirs
  pub printed_passed : (all : List Statement) (rs : List ResultRow) → AllPassed (bookings all) rs → (before : List Statement) → BeginsWith all before → AllPassed (printed_results before) (printed_rows before rs)
  printed_passed all rs h [] e = tt
  printed_passed all rs h (Print p ∷ before) e =
      let f = begins_further all before (Print p) e in
      let first = zip_first IsPassed (length (bookings before)) (bookings all) rs h in
      passed_both (results_named p (bookings before)) (printed_results before) (rows_named p (take (length (bookings before)) rs)) (printed_rows before rs)
      (named_passed p (bookings before) (take (length (bookings before)) rs) (subst (λ bs. AllPassed bs (take (length (bookings before)) rs)) f first)) (printed_passed all rs h before f)
  printed_passed all rs h (s ∷ before) e = printed_passed all rs h before (begins_further all before s e)

  -- and with those of one Print more
  pub printed_with : (before : List Statement) (name : List ℕ) (rs : List ResultRow) → AllPassed (bookings before) rs → AllPassed (printed_results (Print name ∷ before)) (rows_named name rs ++ printed_rows before rs)
  printed_with before name rs h =
      passed_both (results_named name (bookings before)) (printed_results before) (rows_named name rs) (printed_rows before rs) (named_passed name (bookings before) rs h)
      (printed_passed before rs h before (take_all (length (bookings before)) (bookings before) (omega arith)))

module _ (header : List Column) (names : FunctionNames) where
  -- a Vary that was checked makes at most 128 variations with those before it
  pub few_with : (before : List Statement) (node parent vary : List ℕ) (columns tags : List (List ℕ)) (values : VaryValues) → check names (scope_of header) before (Vary node parent columns values tags vary) ≡ None
      → length (variations before) + length tags ≤ 128
  few_with before node parent vary columns tags values ok =
      let targets : Option GraphCause = first_refusal (map (check_target (scope_at names (scope_of header) before parent) (path before parent)) columns) in
      let value : Option GraphCause = check_values names (scope_at names (scope_of header) before parent) (length tags) columns values in
      let a = both_none (check_node before node parent) (refuse_if (repeats columns) GraphCause.NameTaken ∷ targets ∷ check_tags before tags vary ∷ value ∷ []) ok in
      let b = both_none (refuse_if (repeats columns) GraphCause.NameTaken) (targets ∷ check_tags before tags vary ∷ value ∷ []) a.1 in
      let c = both_none targets (check_tags before tags vary ∷ value ∷ []) b.1 in
      let d = both_none (check_tags before tags vary) (value ∷ []) c.1 in
      let many : Option GraphCause = refuse_if (nat_lt 16 (length tags) || nat_lt 128 (length (variations before) + length tags)) GraphCause.TooMany in
      let e = both_none (refuse_if (repeats tags) GraphCause.NameTaken) (refuse_if (is_variation_name before vary) GraphCause.NameTaken ∷ many ∷ []) d.0 in
      let f = both_none (refuse_if (is_variation_name before vary) GraphCause.NameTaken) (many ∷ []) e.1 in
      let g = both_none many [] f.1 in
      let n : ℕ = length (variations before) + length tags in
      go (nat_lt 16 (length tags)) (nat_lt 128 n) refl (if_fails _ GraphCause.TooMany g.0) (Decides-ltb 128 n)
    where
      go : (a c : Bool) → nat_lt 128 (length (variations before) + length tags) ≡ c → (a || c) ≡ false → Decides (nat_lt 128 (length (variations before) + length tags)) (128 < length (variations before) + length tags)
          → length (variations before) + length tags ≤ 128
      go a c q h d = grind arith

  pub few_variations : (before : List Statement) → AreAccepted names (scope_of header) before → length (variations before) ≤ 128
  few_variations [] good = omega arith
  few_variations (s ∷ before) good = own s good.0 (few_variations before good.1)
    where
      own : (t : Statement) → check names (scope_of header) before t ≡ None → length (variations before) ≤ 128 → length (variations (t ∷ before)) ≤ 128
      own (Vary node parent columns values tags vary) ok le =
          let f = few_with before node parent vary columns tags values ok in let c = tags_count vary tags in
          let n = length-append (variations before) (own_variations (Vary node parent columns values tags vary)) in omega (arith, f, c, n)
      own t ok le = let n = length-append (variations before) (own_variations t) in omega (arith, n, le)

  -- a result's set has the numbers of the variations on which it depends
  depends_is : (before : List Statement) → AreAccepted names (scope_of header) before → (r : ℕ) (b : Booked) → slice_get (bookings before) r ≡ Some b → (v : ℕ)
      → depends_at (result_sets header names before) r v ≡ holds_at (λ w. result_depends w b.booking) (slice_get (variations before) v)
  depends_is before good r b h v = result_is header names v before good r ∙ ap (holds_at (λ (c : Booked). holds_at (λ w. result_depends w c.booking) (slice_get (variations before) v))) h

  -- the rows of the results are those of the statements' own
  pub rows_are : (before : List Statement) (t : Tables) → AreTables header names before t → AreRowsOf before (bookings before) t.results.items
  rows_are before t h =
      zip_by IsRow (IsRowOf before) (bookings before) t.results.items
      (λ j b r q p row. record { name = row.name; set = λ v. row_set _ _ t.results.items h.results j r p v ∙ depends_is before h.versions.accepted j b q v }) h.results.0

  -- where a Print looks
  pub print_bounds : (script before : List Statement) (tables : Tables) (t : LoopTables) → AreTables header names script tables → AreLoops script before t → BeginsWith script before
      → (length t.fillers.items ≤ length (bookings before)) × (length (bookings before) ≤ length tables.results.items) × (length tables.results.items ≤ length script) × (length (bookings before) ≤ length before) × (length t.loops.items ≤ length before)
  print_bounds script before tables t h are begins =
      let rows = rows_are script tables h in let n = AllZip-long (IsRowOf script) (bookings script) tables.results.items rows in let m = bookings_few script in
      let b = in_bounds script before t tables.results.items are begins rows in (b.0, b.1, omega (arith, n, m), bookings_few before, b.2)

  passed_from : (script : List Statement) (bs : List Booked) (ds : List Numbers) (rs : List ResultRow) → length (variations script) ≤ 128 → AreRows bs ds rs
      → ((r : ℕ) (b : Booked) → slice_get bs r ≡ Some b → (v : ℕ) → depends_at ds r v ≡ holds_at (λ w. result_depends w b.booking) (slice_get (variations script) v)) → AllPassed script bs rs
  passed_from script bs ds rs few h e =
      zip_by IsRow (IsPassed script) bs rs
      (λ n b r p q row. record {
        name = row.name;
        cells = row.cells;
        takes = row.takes;
        varied = set_counted (λ w. result_depends w b.booking) (variations script) r.set few (λ v. row_set bs ds rs h n r q v ∙ e n b p v);
      }) h.0

  -- the rows of the tables are those of the whole script
  pub rows_passed : (script before : List Statement) → variations script ≡ variations before → AreAccepted names (scope_of header) before → (rs : List ResultRow) → AreRows (bookings before) (result_sets header names before) rs
      → AllPassed script (bookings before) rs
  rows_passed script before h good rs k = grind (arith, passed_from, few_variations, depends_is)

  -- the rows of the tables and of one action more
  action_passed : (before : List Statement) → AreAccepted names (scope_of header) before → (rs : List ResultRow) → AreRows (bookings before) (result_sets header names before) rs
      → (name parent : List ℕ) (k : ActionKind) → check_columns (scope_at names (scope_of header) before parent) (permitted_kinds k) [] (columns_of k) ≡ None
      → (r : ResultRow) → IsBookedRow header names before (Action name parent k) r
      → AllPassed before (bookings (Action name parent k ∷ before)) (rs ++ r ∷ [])
  action_passed before good rs h name parent k known r own =
      passed_both before (bookings before) (record { name = name; booking = ActionAt k (path before parent) } ∷ []) rs (r ∷ []) (rows_passed before before refl good rs h) (
        record {
          name = own.rows.0.0.name;
          cells = own.rows.0.0.cells;
          takes = own.rows.0.0.takes;
          varied = set_counted (λ w. result_depends w (ActionAt k (path before parent))) (variations before) r.set (few_variations before good) (λ v. own.rows.1.0 v ∙ action_is header names v (slice_get (variations before) v) before good (known_at header names v before good) parent k known);
        },
        tt,
      )

  -- the checks of an action, with that of its passes by the rows
  pub action_decided : (before : List Statement) → AreAccepted names (scope_of header) before → (rs : List ResultRow) → AreRows (bookings before) (result_sets header names before) rs → (name parent : List ℕ) (k : ActionKind) (x y : Option GraphCause)
      → x ≡ first_refusal (check_node before name parent ∷ check_columns (scope_at names (scope_of header) before parent) (permitted_kinds k) [] (columns_of k) ∷ check_edges k ∷ check_results (Action name parent k ∷ before) ∷ y ∷ [])
      → (r : ResultRow) → IsBookedRow header names before (Action name parent k) r → (a : Amounts) → IsAmount before (rs ++ r ∷ []) a
      → y ≡ first_refusal (refuse_if (nat_lt 1048576 a.cells) TooMany ∷ refuse_if (nat_lt 16 a.takes) TooMany ∷ []) → x ≡ check names (scope_of header) before (Action name parent k)
  action_decided before good rs h name parent k x y is r own a m count = is ∙ go (check_node before name parent) (check_columns (scope_at names (scope_of header) before parent) (permitted_kinds k) [] (columns_of k)) refl
    where
      booked : List Booked
      booked = bookings (Action name parent k ∷ before)

      go : (o c : Option GraphCause) → check_columns (scope_at names (scope_of header) before parent) (permitted_kinds k) [] (columns_of k) ≡ c
          → first_refusal (o ∷ c ∷ check_edges k ∷ check_results (Action name parent k ∷ before) ∷ y ∷ []) ≡ first_refusal (o ∷ c ∷ check_edges k ∷ check_results (Action name parent k ∷ before) ∷ check_passes before booked ∷ [])
      go (Some d) c e = refl
      go None (Some d) e = refl
      go None None e = λ i. first_refusal (check_edges k ∷ check_results (Action name parent k ∷ before) ∷ passes_checked before booked (rs ++ r ∷ []) (action_passed before good rs h name parent k e r own) a m y count i ∷ [])

  -- ---- tables

  -- the set of an action
  pub action_set_is : (before : List Statement) (t : Tables) → AreTables header names before t → (parent : List ℕ) (cs columns : List (List ℕ)) → cs ≡ columns → (f i u : VarSet) (fs is : List VarSet) → fs ≡ t.site_sets.items → is ≡ t.version_sets.items
      → ((v : ℕ) → has f v ≡ any_has fs (filter_sites header names before parent) v) → ((v : ℕ) → has i v ≡ any_has is (map (version_at header before parent) cs) v)
      → ((v : ℕ) → has u v ≡ (has f v || has i v)) → IsSet (action_set header names before parent columns) u
  action_set_is before t h parent cs columns e f i u fs is a b p q r = grind (arith, sets_any)

-- ---- what accepted statements add to the tables, which is what the numbers of the script say

module _ (header : List Column) (names : FunctionNames) (before : List Statement) where
  site_of : (parent : List ℕ) (site : Site) (e : NamedTree) (c : CheckedExpr) → IsCheckedAt header names before parent e c
      → IsSite (version_kinds header names before) names (site_in header names before parent site e) c
  site_of parent site e c k = record { tree = sym k.tree; reads = k.kinds; typed = k.typed; calls = k.calls }

  -- ---- the sites of a Vary

  list_then : (parent node : List ℕ) (i k : ℕ) (es fs : List NamedTree) (xs : List SiteAt) → ((cs : List CheckedExpr) → AllCheckedAt header names before parent fs cs → AreSites (version_kinds header names before) names xs cs)
      → (cs : List CheckedExpr) → AllCheckedAt header names before parent (es ++ fs) cs → AreSites (version_kinds header names before) names (list_sites header names before parent node i k es ++ xs) cs
  list_then parent node i k [] fs xs rest cs h = rest cs h
  list_then parent node i k (e ∷ es) fs xs rest [] h = elim h [ ]
  list_then parent node i k (e ∷ es) fs xs rest (c ∷ cs) h =
      (site_of parent (record { node = node; column = i; tag = k }) e c h.0, list_then parent node i (suc k) es fs xs rest cs h.1)

  lists_then : (parent node : List ℕ) (i : ℕ) (lists : List (List NamedTree)) (cs : List CheckedExpr) → AllCheckedAt header names before parent (all_expressions lists) cs
      → AreSites (version_kinds header names before) names (lists_sites header names before parent node i lists) cs
  lists_then parent node i [] [] h = tt
  lists_then parent node i [] (c ∷ cs) h = elim h [ ]
  lists_then parent node i (es ∷ lists) cs h =
      list_then parent node i 0 es (all_expressions lists) (lists_sites header names before parent node (suc i) lists) (λ ds k. lists_then parent node (suc i) lists ds k) cs h

  vary_sites : (node parent vary : List ℕ) (columns tags : List (List ℕ)) (values : VaryValues) (cs : List CheckedExpr) → AllCheckedAt header names before parent (value_expressions values) cs
      → AreSites (version_kinds header names before) names (own_sites header names before (Vary node parent columns values tags vary)) cs
  vary_sites node parent vary columns tags values cs h = grind (arith, lists_then, site_of)

  -- ---- gains

  -- an accepted statement adds what it gives, where the sets that were read are those on which its versions and sites depend
  pub gained : (s : Statement) (g : Tables) {types : List ColType} {ds es : List Numbers} {cs : List CheckedExpr} {rs : List ResultRow} → check names (scope_of header) before s ≡ None
      → Gives (own_versions header names before s) types ds cs es (map (λ (f : FilterAt). f.sites) (own_filters header names before s)) rs (own_variations s) g → types ≡ own_kinds header names before s
      → ((out : List VarSet) → AreSets ds out → AreSets (own_version_sets header names before (version_sets header names before) s) out)
      → ((out : List VarSet) → AreSets es out → AreSets (own_site_sets header names before s) out)
      → AreSites (version_kinds header names before) names (own_sites header names before s) cs
      → AreRows (booked_by before s) (own_result_sets header names before s) rs → paths rs ≡ map result_path (own_results header names before s) → IsGain header names before s g
  gained s g ok e kinds versions h own rows ways = grind arith

  -- what holds of a statement by its parts holds of it as it is given
  pub told : (s u : Statement) (r : Result Tables Stop) → s ≡ u → IfOk r (IsGain header names before u) → Settles (check names (scope_of header) before u) r → IfOk r (IsGain header names before s) × Settles (check names (scope_of header) before s) r
  told s u r is g d = subst (λ x. IfOk r (IsGain header names before x) × Settles (check names (scope_of header) before x) r) (sym is) (g, d)

  -- what asks for something of a result adds nothing
  pub nothing_gained : (s u : Statement) (r : Result Tables Stop) → s ≡ u → Settles (check names (scope_of header) before u) r → IfOk r IsEmptyGain
      → ((g : Tables) → check names (scope_of header) before u ≡ None → IsEmptyGain g → IsGain header names before u g) → IfOk r (IsGain header names before s) × Settles (check names (scope_of header) before s) r
  nothing_gained s u (Ok g) is d e f = told s u (Ok g) is (f g d e) d
  nothing_gained s u (Err e) is d h f = told s u (Err e) is tt d

  -- the row of a result alone is what an accepted statement adds that books it
  pub row_gained : (s u : Statement) (row : Result ResultRow Stop) (r : Result Tables Stop) → s ≡ u → ((x : ResultRow) → row ≡ Ok x → IfOk r (IsRowGain x)) → ((wanted : Option GraphCause) → Settles wanted row → Settles wanted r)
      → IfOk row (IsBookedRow header names before u) → Settles (check names (scope_of header) before u) row
      → ((g : Tables) (x : ResultRow) → check names (scope_of header) before u ≡ None → IsRowGain x g → IsBookedRow header names before u x → IsGain header names before u g)
      → IfOk r (IsGain header names before s) × Settles (check names (scope_of header) before s) r
  row_gained s u row (Err e) is m d b k f = told s u (Err e) is tt (d (check names (scope_of header) before u) k)
  row_gained s u (Ok x) (Ok g) is m d b k f = told s u (Ok g) is (f g x k (m x refl) b) k
  row_gained s u (Err (Stop.Cause c)) (Ok g) is m d b k f = cc (d (Some c) refl)
  row_gained s u (Err Stop.Memory) (Ok g) is m d b k f = cc (d (Some GraphCause.NameTaken) tt)

  module _ (t : Tables) (h : AreTables header names before t) where
    read_back : (xs : List SiteAt) (cs : List CheckedExpr) → AreSites (version_kinds header names before) names xs cs → (out : List VarSet) → AreSets (read_sets t.version_sets.items cs) out → AreSets (map (site_set header names before) xs) out
    read_back xs cs k out o = sites_read header names before t.version_sets.items h.version_sets (version_kinds header names before) xs cs out k o

    pub filter_gained : (node parent : List ℕ) (expr : NamedTree) (label : Option (List ℕ)) (c : CheckedExpr) (g : Tables) → check names (scope_of header) before (Filter node parent expr label) ≡ None → IsCheckedAt header names before parent expr c
        → IsFilterGain t.version_sets.items c (named_rows header names before parent label) g → IsGain header names before (Filter node parent expr label) g
    filter_gained node parent expr label c g ok k e =
        let own : AreSites (version_kinds header names before) names (site_in header names before parent (site_at node) expr ∷ []) (c ∷ []) = (site_of parent (site_at node) expr c k, tt) in
        gained (Filter node parent expr label) g ok (subst (λ (rows : List (List ℕ)). IsFilterGain t.version_sets.items c rows g) (sym (filter_named label)) e) refl (λ out o. o) (read_back (site_in header names before parent (site_at node) expr ∷ []) (c ∷ []) own) own (tt, tt) refl
      where
        filter_named : (l : Option (List ℕ)) → map (λ (f : FilterAt). f.sites) (own_filters header names before (Filter node parent expr l)) ≡ named_rows header names before parent l
        filter_named None = refl
        filter_named (Some x) = refl

    pub define_made : (node parent column : List ℕ) (expr : NamedTree) (wrong : Option GraphCause) (r : Result Tables Stop) → wrong ≡ refuse_if (is_visible (scope_at names (scope_of header) before parent) column) GraphCause.NameTaken
        → IfOk r (IsMadeGain header names before t.version_sets.items parent expr) → Settles (first_refusal (check_node before node parent ∷ wrong ∷ refusal_in (kind_of (scope_at names (scope_of header) before parent) names expr) ∷ [])) r
        → IfOk r (IsGain header names before (Define node parent column expr))
    define_made node parent column expr wrong (Ok g) e m d =
        let own : AreSites (version_kinds header names before) names (site_in header names before parent (site_at node) expr ∷ []) (m.site ∷ []) = (site_of parent (site_at node) expr m.site m.checked, tt) in
        let read = read_back (site_in header names before parent (site_at node) expr ∷ []) (m.site ∷ []) own in
        gained (Define node parent column expr) g (rw e at d) m.gain (sym (ap (λ r. kind_or_int r ∷ []) m.checked.kind)) read read own (tt, tt) refl
    define_made node parent column expr wrong (Err s) e m d = tt

    pub redefine_made : (node parent column : List ℕ) (expr : NamedTree) (wrong : Option GraphCause) (r : Result Tables Stop) → wrong ≡ check_target (scope_at names (scope_of header) before parent) (path before parent) column
        → IfOk r (IsMadeGain header names before t.version_sets.items parent expr) → Settles (first_refusal (check_node before node parent ∷ wrong ∷ refusal_in (kind_of (scope_at names (scope_of header) before parent) names expr) ∷ [])) r
        → IfOk r (IsGain header names before (Redefine node parent column expr))
    redefine_made node parent column expr wrong (Ok g) e m d =
        let own : AreSites (version_kinds header names before) names (site_in header names before parent (site_at node) expr ∷ []) (m.site ∷ []) = (site_of parent (site_at node) expr m.site m.checked, tt) in
        let read = read_back (site_in header names before parent (site_at node) expr ∷ []) (m.site ∷ []) own in
        gained (Redefine node parent column expr) g (rw e at d) m.gain (sym (ap (λ r. kind_or_int r ∷ []) m.checked.kind)) read read own (tt, tt) refl
    redefine_made node parent column expr wrong (Err s) e m d = tt

    pub vary_gained : (node : List ℕ) (u : Change) (cs : List CheckedExpr) (g : Tables)
        → check names (scope_of header) before (Vary node u.parent.now u.columns.now u.values.now u.tags.now u.name.now) ≡ None → AllCheckedAt header names before u.parent.now (value_expressions u.values.now) cs
        → IsVaryGain header names before t u cs g → IsGain header names before (Vary node u.parent.now u.columns.now u.values.now u.tags.now u.name.now) g
    vary_gained node u cs g ok k e =
        let own = vary_sites node u.parent.now u.name.now u.columns.now u.tags.now u.values.now cs k in
        gained (Vary node u.parent.now u.columns.now u.values.now u.tags.now u.name.now) g ok e refl
        (λ out. sets_same (changed_set header before t.version_sets.items u.parent.now (length (variations before)) (length u.tags.now)) u.columns.now (varied_set header names before (version_sets header names before) u.parent.now (length u.tags.now)) out
        (λ c v. (λ i. is_among_own (length (variations before)) (length u.tags.now) v || sets_at (version_sets header names before) t.version_sets.items h.version_sets (named_version header before u.parent.now c) v i)))
        (read_back (own_sites header names before (Vary node u.parent.now u.columns.now u.values.now u.tags.now u.name.now)) cs own) own (tt, tt) refl

-- ---- tables

sites_grown : (kinds more : List ColType) (names : FunctionNames) (xs : List SiteAt) (cs : List CheckedExpr) → AreSites kinds names xs cs → AreSites (kinds ++ more) names xs cs
sites_grown kinds more names xs cs h =
    zip_by (IsSite kinds names) (IsSite (kinds ++ more) names) xs cs
    (λ n x c p q s. record { tree = s.tree; reads = All-weaker _ _ (λ k r. kept_at kinds more k.0 k.1 r) c.kinds s.reads; typed = s.typed; calls = s.calls }) h

rows_both : (bs cs : List Booked) (ds es : List Numbers) (rs ss : List ResultRow) → AreRows bs ds rs → AreRows cs es ss → AreRows (bs ++ cs) (ds ++ es) (rs ++ ss)
rows_both bs cs ds es rs ss h k =
    (zip_both IsRow bs cs rs ss h.0 k.0, subst (AreSets (ds ++ es)) (sym (map-append (λ (r : ResultRow). r.set) rs ss)) (zip_both IsSet ds es _ _ h.1 k.1))

-- the tables after an accepted statement
pub record AreAppended (old new : Tables) (g : Tables) : Type 0 where
  pub versions : new.versions.items ≡ old.versions.items ++ g.versions.items
  pub kinds : new.kinds.items ≡ old.kinds.items ++ g.kinds.items
  pub few : length old.kinds.items + length g.kinds.items ≤ 4294967295
  pub version_sets : new.version_sets.items ≡ old.version_sets.items ++ g.version_sets.items
  pub sites : new.sites.items ≡ old.sites.items ++ g.sites.items
  pub site_sets : new.site_sets.items ≡ old.site_sets.items ++ g.site_sets.items
  pub filters : new.filters.items ≡ old.filters.items ++ g.filters.items
  pub results : new.results.items ≡ old.results.items ++ g.results.items

pub added : {E : Type 0} (r : Result Unit E) (old new : Tables) (g : Tables) → AreAppended old new g → OnOk r (new.variations ≡ old.variations ++ g.variations) → OnOk r (GrowBy old g new)
added r old new g a v = grind (arith, length-append, zip_both, sites_grown, map-append, rows_both)

-- the variations of an accepted script with those of a gain are few
pub gain_fits : (header : List Column) (names : FunctionNames) (before : List Statement) (s : Statement) (t : Tables) (g : Tables) → AreTables header names before t → IsGain header names before s g → length t.variations + length g.variations ≤ 128
gain_fits header names before s t g h k =
    let f = few_variations header names (s ∷ before) (k.accepted, h.versions.accepted) in
    let n = length-append (variations before) (own_variations s) in let a = ap length h.variations in let b = ap length k.variations in omega (arith, f, n, a, b)

-- the check of a statement decides that of the same one
pub decided_at : {A : Type 0} (header : List Column) (names : FunctionNames) (before : List Statement) (s t : Statement) (r : Result A Stop) → s ≡ t → Settles (check names (scope_of header) before t) r → Settles (check names (scope_of header) before s) r
decided_at header names before s t r e h = subst (λ u. Settles (check names (scope_of header) before u) r) (sym e) h
