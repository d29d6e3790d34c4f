-- Where each site stands, and that a script that goes on keeps the numbers of what it booked before.
use Rattle.lemmas.proofs.{◌≡◌, ◌⊎◌, inl, inr, ℕ, ◌+◌, Bool, true, false, List, [], ◌∷◌, ◌++◌, length, Some, sym, ap, arith, slice_get, zero-add, map, ◌<◌, ◌≤◌, length-append, suc, refl, zero, None, Ok, nat_eq, ◌*◌, ◌∙◌, Option, if◌then◌else◌, flat_map, AllByRecursion, append-nil, Decides-eqb, kept_at, length-map, mapped_at}
use Rattle.rdf_values.specs.{place, same, ActionAt, ActionKind, Column, FunctionNames, NamedTree, path, Statement, parent_of, Under, VaryValues, AreAccepted, check, check_list, check_lists, check_vector_column, ColType, column_kind, EachColumn, expect_kind, first_refusal, GraphCause, kind_of, kind_or_int, refuse_unless, scope_at, scope_of, before, expression_count, IsShort, fn_names, Function, makes, target_of, Value, aliases, check_target, made_columns, visible_columns}
use Rattle.rdf_model.proofs.Accepted.{names_equal, place_after, all_none, both_none, kind_known, kind_expected, unless_holds, checked_of, passed_over, target_is_none, visible_resolved, sound_path}
use Rattle.rdf_values.specs.declared.scripts.statement.Statement.TheVariants.{Filter, Action, Report, Vary, Define, Redefine}
use Rattle.graph_numbers.specs.{action_at, filter_at, report_at, filter_sites, FilterAt, filters, own_filters, own_results, ResultAt, results, site_count, version_at, own_filter_site, cell_sources, cell_versions, own_columns, own_sites, own_sources, own_versions, SiteAt, sites, Source, sources, varied_sources, varied_versions, version_count, versions, list_sites, lists_sites, list_start, site_in, column_place, named_version, own_kinds, own_version, version_kinds, version_or}
use Rattle.rdf_values.specs.declared.scripts.statement.VaryValues.TheVariants.{Lists, Vector}
use Rattle.rdf_model.specs.{Site, site_at, booking_demands, column_demands, Demand, demands_after, expression_at, filter_demands, input_demands, met_columns, named_demands, Outcome, own_place, projected, site_demands, tag_demands, through, varied}
pub use Rattle.rdf_model.proofs.Typing.{by_test}
use Rattle.rdf_model.proofs.Typing.{IsKnownColumn, each_renamed, each_weaker, known_columns, same_ok}
use Rattle.rdf_values.proofs.KeptLemmas.{In, here, there, in_joined, in_left, in_right}

-- ---- what holds of each named filter and of each result, place by place; the sites of filters are sites

-- what stands in the second one
pub next_at : {A : Type 0} (xs ys : List A) (k n : ℕ) → n ≡ length xs + k → slice_get (xs ++ ys) n ≡ slice_get ys k
next_at [] ys k n h = grind arith
next_at (x ∷ xs) ys k n h = grind (arith, next_at xs ys k)

-- an element stands in the first list, or in the second one
pub joined : {A P : Type 0} (xs ys : List A) (n : ℕ) (x : A) → slice_get (xs ++ ys) n ≡ Some x → (slice_get xs n ≡ Some x → P) → ((k : ℕ) → n ≡ length xs + k → slice_get ys k ≡ Some x → P) → P
joined [] ys n x h first second = second n (sym (zero-add n)) h
joined {P = P} (y ∷ xs) ys n x h first second = grind (arith, joined {P = P} xs ys)

pub of_joined : {A : Type 0} (xs ys : List A) (n : ℕ) (x : A) → slice_get (xs ++ ys) n ≡ Some x → (slice_get xs n ≡ Some x) ⊎ ((k : ℕ) × (n ≡ length xs + k) × (slice_get ys k ≡ Some x))
of_joined xs ys n x h = joined xs ys n x h (λ q. inl q) (λ k e q. inr (k, e, q))

-- what stands in a list of one
pub only_at : {A : Type 0} (x y : A) (k : ℕ) → slice_get (x ∷ []) k ≡ Some y → x ≡ y
only_at x y k h = grind arith

-- a name stands at its place
pub place_gives : (name : List ℕ) (names : List (List ℕ)) (k : ℕ) → place (same name) names ≡ Some k → slice_get names k ≡ Some name
place_gives name [] k h = cc h
place_gives name (x ∷ xs) k h =
    by_test (same name x) (λ e. let first : 0 ≡ k = cc (rw e at h) in rw (← first) (ap Some (sym (names_equal name x e))))
    (λ e. let w = place_after (place (same name) xs) k (rw e at h) in rw (← w.2) (place_gives name xs w.0 w.1))

-- ---- What holds of each named filter and of each result where it is booked, and goes on to hold, holds of all.

module _ (header : List Column) (names : FunctionNames) where
  pub each_filter : (P : List Statement → FilterAt → Type 0) → ((before : List Statement) (s : Statement) (f : FilterAt) → P before f → P (s ∷ before) f)
      → ((before : List Statement) (node parent : List ℕ) (expr : NamedTree) (label : List ℕ) → P (Filter node parent expr (Some label) ∷ before) (filter_at header names before node parent expr label))
      → (before : List Statement) (n : ℕ) (f : FilterAt) → slice_get (filters header names before) n ≡ Some f → P before f
  each_filter P later first [] n f h = cc h
  each_filter P later first (s ∷ before) n f h =
      joined (filters header names before) (own_filters header names before s) n f h (λ q. later before s f (each_filter P later first before n f q)) (λ k e q. own s k q)
    where
      own : (s : Statement) (k : ℕ) → slice_get (own_filters header names before s) k ≡ Some f → P (s ∷ before) f
      own s k q = grind (arith, only_at)

  pub each_result : (P : List Statement → ResultAt → Type 0) → ((before : List Statement) (s : Statement) (r : ResultAt) → P before r → P (s ∷ before) r)
      → ((before : List Statement) (result parent : List ℕ) (k : ActionKind) → P (Action result parent k ∷ before) (action_at header names before result parent k))
      → ((before : List Statement) (result parent : List ℕ) → P (Report result parent ∷ before) (report_at header names before result parent))
      → (before : List Statement) (n : ℕ) (r : ResultAt) → slice_get (results header names before) n ≡ Some r → P before r
  each_result P later action report [] n r h = cc h
  each_result P later action report (s ∷ before) n r h =
      joined (results header names before) (own_results header names before s) n r h (λ q. later before s r (each_result P later action report before n r q)) (λ k e q. own s k q)
    where
      own : (s : Statement) (k : ℕ) → slice_get (own_results header names before s) k ≡ Some r → P (s ∷ before) r
      own s k q = grind (arith, only_at)

-- ---- The sites of filters are sites.

abbrev pub AreBelow : ℕ → List ℕ → Type 0
AreBelow n ss = AllByRecursion (λ (s : ℕ). s < n) ss

pub further_below : (m n : ℕ) (ss : List ℕ) → m ≤ n → AreBelow m ss → AreBelow n ss
further_below m n [] le h = tt
further_below m n (s ∷ ss) le h = (let q = h.0 in omega (arith, q, le), further_below m n ss le h.1)

one_further : (n s : ℕ) (ss : List ℕ) → s < n → AreBelow n ss → AreBelow n (ss ++ s ∷ [])
one_further n s [] lt h = (lt, tt)
one_further n s (t ∷ ss) lt h = (h.0, one_further n s ss lt h.1)

module _ (header : List Column) (names : FunctionNames) where
  more_sites : (before : List Statement) (s : Statement) → site_count header names before ≤ site_count header names (s ∷ before)
  more_sites before s = grind (arith, length-append)

  own_below : (before : List Statement) (s : Statement) (ss : List ℕ) → AreBelow (site_count header names before) ss → AreBelow (site_count header names (s ∷ before)) (ss ++ own_filter_site s (site_count header names before))
  own_below before s ss h = grind (arith, length-append, one_further, further_below, more_sites, append-nil)

  pub filter_sites_below : (before : List Statement) (node : List ℕ) → AreBelow (site_count header names before) (filter_sites header names before node)
  filter_sites_below [] node = tt
  filter_sites_below (s ∷ before) node =
      grind (arith, by_test, own_below, further_below, more_sites, filter_sites_below before (parent_of s), filter_sites_below before node)

  pub filters_below : (before : List Statement) (n : ℕ) (f : FilterAt) → slice_get (filters header names before) n ≡ Some f → AreBelow (site_count header names before) f.sites
  filters_below =
      each_filter header names (λ before f. AreBelow (site_count header names before) f.sites) (λ before s f h. further_below _ _ f.sites (more_sites before s) h)
      (λ before node parent expr label. own_below before (Filter node parent expr (Some label)) (filter_sites header names before parent) (filter_sites_below before parent))

-- the latter statements are the former with others after them
pub data Extends : List Statement → List Statement → Type 0 where
  itself : {before : List Statement} → Extends before before
  further : {before after : List Statement} (s : Statement) → Extends before after → Extends before (s ∷ after)

pub shorter : (s : Statement) (before after : List Statement) → Extends (s ∷ before) after → Extends before after
shorter s before after itself = further s itself
shorter s before after (further {after = c} t e) = further t (shorter s before c e)

-- what statements add to keeps what it had
pub kept : {X : Type 0} (list : List Statement → List X) (own : List Statement → Statement → List X) → ((before : List Statement) (s : Statement) → list (s ∷ before) ≡ list before ++ own before s)
    → (before after : List Statement) → Extends before after → (k : ℕ) (x : X) → slice_get (list before) k ≡ Some x → slice_get (list after) k ≡ Some x
kept list own grows before after itself k x h = h
kept list own grows before after (further {after = c} s e) k x h = rw (grows c s) (kept_at (list c) (own c s) k x (kept list own grows before c e k x h))

module _ (header : List Column) (names : FunctionNames) where
  pub site_kept : (before after : List Statement) → Extends before after → (k : ℕ) (x : SiteAt) → slice_get (sites header names before) k ≡ Some x → slice_get (sites header names after) k ≡ Some x
  site_kept = kept (sites header names) (own_sites header names) (λ before s. refl)

  module _ (u : Under) where
    pub source_kept : (before after : List Statement) → Extends before after → (k : ℕ) (x : Source) → slice_get (sources header names u before) k ≡ Some x → slice_get (sources header names u after) k ≡ Some x
    source_kept = kept (sources header names u) (λ before s. own_sources header names u before (sources header names u before) s) (λ before s. refl)

    cell_sources_count : (n : ℕ) (cs : List Column) → length (cell_sources n cs) ≡ length cs
    cell_sources_count n [] = refl
    cell_sources_count n (c ∷ cs) = ap suc (cell_sources_count (suc n) cs)

    varied_count : (before : List Statement) (below : List Source) (parent : List ℕ) (values : VaryValues) (tags : List (List ℕ)) (vary : List ℕ) (i : ℕ) (columns : List (List ℕ))
        → length (varied_sources header names u before below parent values tags vary i columns) ≡ length columns
    varied_count before below parent values tags vary i [] = refl
    varied_count before below parent values tags vary i (c ∷ cs) = ap suc (varied_count before below parent values tags vary (suc i) cs)

    own_count : (before : List Statement) (below : List Source) (s : Statement) → length (own_sources header names u before below s) ≡ length (own_columns s)
    own_count before below s = grind (arith, varied_count)

    -- there is one source for each version
    pub source_count : (before : List Statement) → length (sources header names u before) ≡ version_count header before
    source_count [] = cell_sources_count 0 header
    source_count (s ∷ before) = grind (arith, length-append, source_count before, own_count)

  cell_versions_count : (n : ℕ) (cs : List Column) → length (cell_versions header names n cs) ≡ length cs
  cell_versions_count n [] = refl
  cell_versions_count n (c ∷ cs) = ap suc (cell_versions_count (suc n) cs)

  varied_versions_count : (before : List Statement) (parent : List ℕ) (values : VaryValues) (tags : List (List ℕ)) (i : ℕ) (columns : List (List ℕ))
      → length (varied_versions header names before parent values tags i columns) ≡ length columns
  varied_versions_count before parent values tags i [] = refl
  varied_versions_count before parent values tags i (c ∷ cs) = ap suc (varied_versions_count before parent values tags (suc i) cs)

  own_versions_count : (before : List Statement) (s : Statement) → length (own_versions header names before s) ≡ length (own_columns s)
  own_versions_count before s = grind (arith, varied_versions_count)

  -- there are as many versions
  pub versions_count : (before : List Statement) → length (versions header names before) ≡ version_count header before
  versions_count [] = cell_versions_count 0 header
  versions_count (s ∷ before) = grind (arith, length-append, versions_count before, own_versions_count)

-- ---- Where each site stands: after those of the statements before its own, over columns that are visible there.

module _ (header : List Column) (names : FunctionNames) where
  -- site s of the statements so far is one that reads its columns at a node, after statements that were accepted
  pub record IsPlaced (before : List Statement) (s : ℕ) (x : SiteAt) : Type 0 where
    pub earlier : List Statement
    pub parent : List ℕ
    pub site : Site
    pub expr : NamedTree
    pub kind : ColType
    pub is : x ≡ site_in header names earlier parent site expr
    pub extends : Extends earlier before
    pub start : site_count header names earlier ≤ s
    pub accepted : AreAccepted names (scope_of header) earlier
    pub typed : kind_of (scope_at names (scope_of header) earlier parent) names expr ≡ Ok kind

  abbrev pub IsOwn : List Statement → List ℕ → SiteAt → Type 0
  IsOwn before parent x =
      (site : Site) × (expr : NamedTree) × (t : ColType) × (x ≡ site_in header names before parent site expr) × (kind_of (scope_at names (scope_of header) before parent) names expr ≡ Ok t)

  -- the sites of a list whose expressions were checked
  list_own : (before : List Statement) (parent node : List ℕ) (i k l : ℕ) (t : ColType) (es : List NamedTree) (x : SiteAt)
      → first_refusal (map (λ e. expect_kind t (kind_of (scope_at names (scope_of header) before parent) names e)) es) ≡ None
      → slice_get (list_sites header names before parent node i k es) l ≡ Some x → IsOwn before parent x
  list_own before parent node i k l t [] x ok h = cc h
  list_own before parent node i k zero t (e ∷ es) x ok h = grind (arith, both_none, kind_expected)
  list_own before parent node i k (suc l) t (e ∷ es) x ok h = grind (arith, both_none, list_own before parent node i (suc k) l t es x)

  lists_own : (before : List Statement) (parent node : List ℕ) (tags i l : ℕ) (columns : List (List ℕ)) (lists : List (List NamedTree)) (x : SiteAt) → length lists ≡ length columns
      → first_refusal (check_lists names (scope_at names (scope_of header) before parent) tags columns lists) ≡ None
      → slice_get (lists_sites header names before parent node i lists) l ≡ Some x → IsOwn before parent x
  lists_own before parent node tags i l columns [] x many ok h = cc h
  lists_own before parent node tags i l [] (es ∷ lists) x many ok h = cc many
  lists_own before parent node tags i l (c ∷ columns) (es ∷ lists) x many ok h =
      let p = both_none (check_list names (scope_at names (scope_of header) before parent) tags c es) (check_lists names (scope_at names (scope_of header) before parent) tags columns lists) ok in
      let q = both_none (refuse_unless (nat_eq (length es) tags) GraphCause.WrongCount) (map (λ e. expect_kind (kind_or_int (column_kind (scope_at names (scope_of header) before parent) c)) (kind_of (scope_at names (scope_of header) before parent) names e)) es) p.0 in
      joined (list_sites header names before parent node i 0 es) (lists_sites header names before parent node (suc i) lists) l x h (λ r. list_own before parent node i 0 l _ es x q.1 r)
      (λ k e r. lists_own before parent node tags (suc i) k columns lists x (omega (arith, many)) p.1 r)

  -- the sites of a statement that was checked
  pub own_placed : (before : List Statement) (s : Statement) (k : ℕ) (x : SiteAt) → check names (scope_of header) before s ≡ None → slice_get (own_sites header names before s) k ≡ Some x → (parent : List ℕ) × IsOwn before parent x
  own_placed before (Vary node parent columns (Lists lists) tags vary) k x ok h =
      let c = checked_of names (scope_of header) before (Vary node parent columns (Lists lists) tags vary) ok in
      let p = both_none (refuse_unless (nat_eq (length lists) (length columns)) GraphCause.WrongCount) (check_lists names (scope_at names (scope_of header) before parent) (length tags) columns lists) c.1 in
      let many : length lists ≡ length columns = (Decides-eqb (length lists) (length columns)).0 (unless_holds (nat_eq (length lists) (length columns)) GraphCause.WrongCount p.0) in
      (parent, lists_own before parent node (length tags) 0 k columns lists x many p.1 h)
  own_placed before (Vary node parent columns (Vector e) tags vary) k x ok h =
      let c = checked_of names (scope_of header) before (Vary node parent columns (Vector e) tags vary) ok in
      let scope = scope_at names (scope_of header) before parent in
      let all = all_none (refuse_unless (nat_eq (length columns) 1) GraphCause.WrongCount ∷ expect_kind ColType.Vect (kind_of scope names e) ∷ check_vector_column scope columns ∷ []) c.1 in
      (parent, (site_at node, e, ColType.Vect, sym (only_at _ x k h), kind_expected ColType.Vect _ all.1.0))
  own_placed before s k x ok h = grind (arith, kind_known, checked_of, only_at, all_none, kind_expected)

  placed_upto : (before upto : List Statement) → Extends upto before → AreAccepted names (scope_of header) upto → (s : ℕ) (x : SiteAt) → slice_get (sites header names upto) s ≡ Some x → IsPlaced before s x
  placed_upto before [] f good s x h = cc h
  placed_upto before (t ∷ upto) f good s x h =
      joined (sites header names upto) (own_sites header names upto t) s x h (λ q. placed_upto before upto (shorter t upto before f) good.1 s x q)
      (λ k e q.
      let o = own_placed upto t k x good.0 q in
      record {
        earlier = upto;
        parent = o.0;
        site = o.1.0;
        expr = o.1.1;
        kind = o.1.2;
        is = o.1.3;
        extends = shorter t upto before f;
        start = omega (arith, e);
        accepted = good.1;
        typed = o.1.4;
      })

  -- each site of an accepted script is placed
  pub placed : (before : List Statement) → AreAccepted names (scope_of header) before → (s : ℕ) (x : SiteAt) → slice_get (sites header names before) s ≡ Some x → IsPlaced before s x
  placed before = placed_upto before before itself

  -- what holds of the version of each visible column holds of each that a placed site reads
  pub each_version : (Q : ℕ → Type 0) (before : List Statement) (s : ℕ) (x : SiteAt) (p : IsPlaced before s x)
      → ((c : List ℕ) (t : ColType) → column_kind (scope_at names (scope_of header) p.earlier p.parent) c ≡ Ok t → Q (version_at header p.earlier p.parent c)) → EachColumn Q x.tree
  each_version Q before s x p f = grind (arith, each_renamed, each_weaker, IsKnownColumn, known_columns)

-- ---- a script that can be booked has few sites

module _ (header : List Column) (names : FunctionNames) where
  pub list_count : (before : List Statement) (parent node : List ℕ) (i k : ℕ) (es : List NamedTree) → length (list_sites header names before parent node i k es) ≡ length es
  list_count before parent node i k [] = refl
  list_count before parent node i k (e ∷ es) = ap suc (list_count before parent node i (suc k) es)

  lists_count : (before : List Statement) (parent node : List ℕ) (i : ℕ) (ls : List (List NamedTree)) → length (lists_sites header names before parent node i ls) ≡ expression_count ls
  lists_count before parent node i [] = refl
  lists_count before parent node i (es ∷ ls) =
      length-append (list_sites header names before parent node i 0 es) (lists_sites header names before parent node (suc i) ls)
      ∙ (λ l. list_count before parent node i 0 es l + lists_count before parent node (suc i) ls l)

  own_few : (before : List Statement) (s : Statement) → IsShort s → length (own_sites header names before s) ≤ 65536
  own_few before s h = grind (arith, lists_count)

  pub sites_few : (before : List Statement) → AllByRecursion IsShort before → length (sites header names before) ≤ 65536 * length before
  sites_few [] h = omega arith
  sites_few (s ∷ before) h =
      let n = sites_few before h.1 in let m = own_few before s h.0 in let e = length-append (sites header names before) (own_sites header names before s) in omega (arith, n, m, e)

-- ---- the sites of a Vary

module _ (header : List Column) (names : FunctionNames) (before : List Statement) (parent node : List ℕ) where
  list_site_at : (i k l : ℕ) (es : List NamedTree) (e : NamedTree) → slice_get es l ≡ Some e
      → slice_get (list_sites header names before parent node i k es) l ≡ Some (site_in header names before parent (record { node = node; column = i; tag = k + l }) e)
  list_site_at i k l [] e h = cc h
  list_site_at i k zero (x ∷ es) e h = grind arith
  list_site_at i k (suc l) (x ∷ es) e h = grind (arith, list_site_at i (suc k) l es e h)

  -- the site for the column at place i and the tag at place k
  pub lists_site_at : (j i k : ℕ) (lists : List (List NamedTree)) (e : NamedTree) → expression_at lists i k ≡ Some e
      → slice_get (lists_sites header names before parent node j lists) (list_start lists i + k) ≡ Some (site_in header names before parent (record { node = node; column = j + i; tag = k }) e)
  lists_site_at j i k [] e h = cc h
  lists_site_at j zero k (es ∷ lists) e h =
      let at : j ≡ j + 0 = omega arith in let n : 0 + k ≡ k = omega arith in let m : 0 + k ≡ k = omega arith in
      ap (slice_get (lists_sites header names before parent node j (es ∷ lists))) n
      ∙ kept_at (list_sites header names before parent node j 0 es) (lists_sites header names before parent node (suc j) lists) k _ (list_site_at j 0 k es e h)
      ∙ (λ l. Some (site_in header names before parent (record { node = node; column = at l; tag = m l }) e))
  lists_site_at j (suc i) k (es ∷ lists) e h = grind (arith, list_count, next_at, lists_site_at (suc j) i k lists e h)

-- ---- what a reading demands has with each site the sites of the columns that its evaluation meets

module _ (fns : List Function) (columns : List Column) (row : List Value) (u : Under) (before : List Statement) where
  -- what a site demands by itself
  abbrev pub demand_of : SiteAt → Demand
  demand_of x = record { site = x.site; under = projected x.at x.expr u }

  -- the demand is that of a site, and the list has what the columns demand that the site meets
  pub record IsExplained (big : List Demand) (d : Demand) : Type 0 where
    pub number : ℕ
    pub site : SiteAt
    pub there_is : slice_get (sites columns (fn_names fns) before) number ≡ Some site
    pub is : d ≡ demand_of site
    pub met : (name : List ℕ) → In name (met_columns fns columns row site.at u site.expr) → (e : Demand) → In e (column_demands fns columns row site.at u name) → In e big

  abbrev pub AreExplained : List Demand → Type 0
  AreExplained ds = (d : Demand) → In d ds → IsExplained ds d

  wider : (small big : List Demand) → ((e : Demand) → In e small → In e big) → (d : Demand) → IsExplained small d → IsExplained big d
  wider small big f d h = record { number = h.number; site = h.site; there_is = h.there_is; is = h.is; met = λ name k e l. f e (h.met name k e l) }

  none_explained : AreExplained []
  none_explained d h = elim h [ ]

  pub append_explained : (xs ys : List Demand) → AreExplained xs → AreExplained ys → AreExplained (xs ++ ys)
  append_explained xs ys h k d l = in_joined xs ys l (λ m. wider xs (xs ++ ys) (λ e n. in_left xs ys n) d (h d m)) (λ m. wider ys (xs ++ ys) (λ e n. in_right xs ys n) d (k d m))

  flat_explained : {A : Type 0} (f : A → List Demand) (xs : List A) → ((a : A) → AreExplained (f a)) → AreExplained (flat_map f xs)
  flat_explained f [] h = none_explained
  flat_explained f (x ∷ xs) h = append_explained (f x) (flat_map f xs) (h x) (flat_explained f xs h)

  in_flat : {A : Type 0} {e : Demand} (f : A → List Demand) (x : A) (xs : List A) → In x xs → In e (f x) → In e (flat_map f xs)
  in_flat f x xs (here {xs = ys}) k = in_left (f x) (flat_map f ys) k
  in_flat f x xs (there {y = y} {xs = ys} h) k = in_right (f y) (flat_map f ys) (in_flat f x ys h k)

  -- a site with what it meets
  pub site_explained : (s : ℕ) (x : SiteAt) → slice_get (sites columns (fn_names fns) before) s ≡ Some x → ((c : List ℕ) → AreExplained (column_demands fns columns row x.at u c))
      → AreExplained (site_demands fns columns row x.at u x.site x.expr (column_demands fns columns row x.at u))
  site_explained s x h k = grind (arith, here, there, in_flat, wider, flat_explained)

  if_explained : (b : Bool) (xs ys : List Demand) → AreExplained xs → AreExplained ys → AreExplained (if b then xs else ys)
  if_explained b xs ys h k = grind arith

  varied_explained : (k i : Option ℕ) (own : ℕ → ℕ → List Demand) (above : List Demand) → ((i k : ℕ) → AreExplained (own i k)) → AreExplained above → AreExplained (varied k i own above)
  varied_explained k i own above h a = grind arith

  abbrev Reads : List Statement → List ℕ → Type 0
  Reads earlier node = (name : List ℕ) → AreExplained (named_demands fns columns row (path earlier node) u name)

  -- the only site of a statement
  pub own_site : (earlier : List Statement) (s : Statement) (parent node : List ℕ) (expr : NamedTree) → Extends (s ∷ earlier) before
      → own_sites columns (fn_names fns) earlier s ≡ site_in columns (fn_names fns) earlier parent (site_at node) expr ∷ []
      → slice_get (sites columns (fn_names fns) before) (site_count columns (fn_names fns) earlier) ≡ Some (site_in columns (fn_names fns) earlier parent (site_at node) expr)
  own_site earlier s parent node expr e own =
      site_kept columns (fn_names fns) (s ∷ earlier) before e (site_count columns (fn_names fns) earlier) _
      (next_at (sites columns (fn_names fns) earlier) (own_sites columns (fn_names fns) earlier s) 0 _ (omega arith) ∙ ap (λ xs. slice_get xs 0) own)

  tag_explained : (earlier : List Statement) (node parent vary : List ℕ) (cs tags : List (List ℕ)) (values : VaryValues) → Extends (Vary node parent cs values tags vary ∷ earlier) before → Reads earlier parent
      → (i k : ℕ) → AreExplained (tag_demands fns columns row (path earlier parent) u node values (column_demands fns columns row (path earlier parent) u) i k)
  tag_explained earlier node parent vary cs tags (Vector x) e h i k =
      site_explained (site_count columns (fn_names fns) earlier) (site_in columns (fn_names fns) earlier parent (site_at node) x)
      (own_site earlier (Vary node parent cs (Vector x) tags vary) parent node x e refl) (λ c. h (target_of (path earlier parent) c))
  tag_explained earlier node parent vary cs tags (Lists lists) e h i k = go (expression_at lists i k) refl
    where
      go : (o : Option NamedTree) → expression_at lists i k ≡ o
          → AreExplained (elim o as (λ _. List Demand) [ None ↦ [] | Some x ↦ site_demands fns columns row (path earlier parent) u (record { node = node; column = i; tag = k }) x (column_demands fns columns row (path earlier parent) u) ])
      go None q = none_explained
      go (Some x) q =
          let z : 0 + i ≡ i = omega arith in
          site_explained _ (site_in columns (fn_names fns) earlier parent (record { node = node; column = i; tag = k }) x)
          (site_kept columns (fn_names fns) (Vary node parent cs (Lists lists) tags vary ∷ earlier) before e _ _
          (next_at (sites columns (fn_names fns) earlier) (lists_sites columns (fn_names fns) earlier parent node 0 lists) _ _ refl ∙ lists_site_at columns (fn_names fns) earlier parent node 0 i k lists x q
          ∙ (λ l. Some (site_in columns (fn_names fns) earlier parent (record { node = node; column = z l; tag = k }) x))))
          (λ c. h (target_of (path earlier parent) c))

  statement_explained : (earlier : List Statement) (s : Statement) → Extends (s ∷ earlier) before → Reads earlier (parent_of s) → (name : List ℕ) → AreExplained (named_demands fns columns row (s ∷ path earlier (parent_of s)) u name)
  statement_explained earlier (Define node parent column expr) e h name =
      if_explained (same column name) _ _
      (site_explained (site_count columns (fn_names fns) earlier) (site_in columns (fn_names fns) earlier parent (site_at node) expr)
      (own_site earlier (Define node parent column expr) parent node expr e refl) (λ c. h (target_of (path earlier parent) c))) (h name)
  statement_explained earlier (Redefine node parent column expr) e h name =
      if_explained (same column name) _ _
      (site_explained (site_count columns (fn_names fns) earlier) (site_in columns (fn_names fns) earlier parent (site_at node) expr)
      (own_site earlier (Redefine node parent column expr) parent node expr e refl) (λ c. h (target_of (path earlier parent) c))) (h name)
  statement_explained earlier (Vary node parent cs values tags vary) e h name =
      varied_explained (own_place u vary tags) (place (same name) cs) _ _ (tag_explained earlier node parent vary cs tags values e h) (h name)
  statement_explained earlier s e h name = h name

  -- reading a column that is no alias
  named_explained : (earlier : List Statement) → Extends earlier before → (node : List ℕ) → Reads earlier node
  named_explained [] e node name = none_explained
  named_explained (s ∷ earlier) e node name =
      by_test (makes s node) (λ t. rw t (statement_explained earlier s e (named_explained earlier (shorter s earlier before e) (parent_of s)) name))
      (λ t. rw t (named_explained earlier (shorter s earlier before e) node name))

  -- reading a column
  pub column_explained : (earlier : List Statement) → Extends earlier before → (node name : List ℕ) → AreExplained (column_demands fns columns row (path earlier node) u name)
  column_explained earlier e node name = named_explained earlier e node (target_of (path earlier node) name)

  after_explained : {A : Type 0} (o : Outcome ⊥ A) (next : A → List Demand) → ((a : A) → AreExplained (next a)) → AreExplained (demands_after o next)
  after_explained o next h = grind (arith, none_explained)

  -- trying the filters of a node
  pub filter_statement : (earlier : List Statement) (s : Statement) → Extends (s ∷ earlier) before → AreExplained (filter_demands fns columns row (path earlier (parent_of s)) u)
      → AreExplained (filter_demands fns columns row (s ∷ path earlier (parent_of s)) u)
  filter_statement earlier (Filter node parent expr label) e h =
      append_explained (filter_demands fns columns row (path earlier parent) u) _ h
      (after_explained (through fns columns row (path earlier parent) u) _
      (λ passed. if_explained passed _ []
      (site_explained (site_count columns (fn_names fns) earlier) (site_in columns (fn_names fns) earlier parent (site_at node) expr)
      (own_site earlier (Filter node parent expr label) parent node expr e refl) (λ c. column_explained earlier (shorter (Filter node parent expr label) earlier before e) parent c)) none_explained))
  filter_statement earlier s e h = h

  pub filters_explained : (earlier : List Statement) → Extends earlier before → (node : List ℕ) → AreExplained (filter_demands fns columns row (path earlier node) u)
  filters_explained [] e node = none_explained
  filters_explained (s ∷ earlier) e node =
      by_test (makes s node) (λ t. rw t (filter_statement earlier s e (filters_explained earlier (shorter s earlier before e) (parent_of s))))
      (λ t. rw t (filters_explained earlier (shorter s earlier before e) node))

  inputs_explained : (earlier : List Statement) → Extends earlier before → (node : List ℕ) (cs : List (List ℕ)) → AreExplained (input_demands fns columns row (path earlier node) u cs)
  inputs_explained earlier e node [] = none_explained
  inputs_explained earlier e node (c ∷ cs) = grind (arith, append_explained, column_explained, after_explained, inputs_explained earlier e node cs)

  -- an action: its filters, and where the entry passes them its columns
  pub action_explained : (earlier : List Statement) → Extends earlier before → (node : List ℕ) (k : ActionKind) → AreExplained (booking_demands fns columns row (ActionAt k (path earlier node)) u)
  action_explained earlier e node k = grind (arith, append_explained, filters_explained, after_explained, if_explained, inputs_explained, none_explained)

-- ---- The version of a visible column has the column's kind, and comes to a value of it.

module _ (header : List Column) (names : FunctionNames) where
  own_kinds_count : (before : List Statement) (s : Statement) → length (own_kinds header names before s) ≡ length (own_columns s)
  own_kinds_count before s = grind (arith, length-map)

  -- there is one kind for each version
  pub kind_count : (before : List Statement) → length (version_kinds header names before) ≡ version_count header before
  kind_count [] = length-map header (λ (c : Column). c.kind)
  kind_count (s ∷ before) = grind (arith, length-append, kind_count before, own_kinds_count)

  pub kind_later : (before after : List Statement) → Extends before after → (c : ℕ) (t : ColType) → slice_get (version_kinds header names before) c ≡ Some t → slice_get (version_kinds header names after) c ≡ Some t
  kind_later = kept (version_kinds header names) (own_kinds header names) (λ before s. refl)

  cell_kind : (cs : List Column) (name : List ℕ) (t : ColType) → column_kind (scope_of cs) name ≡ Ok t → slice_get (map (λ (c : Column). c.kind) cs) (column_place cs name) ≡ Some t
  cell_kind [] name t h = cc h
  cell_kind (c ∷ cs) name t h = by_test (same c.name name) (λ e. rw e (ap Some (same_ok c.kind t (rw e at h)))) (λ e. rw e (cell_kind cs name t (rw e at h)))

  abbrev Above : List Statement → List ℕ → Type 0
  Above before node = (name : List ℕ) (t : ColType) → column_kind (made_columns names (scope_of header) (path before node)) name ≡ Ok t → slice_get (version_kinds header names before) (named_version header before node name) ≡ Some t

  defined_kind : (before : List Statement) (s : Statement) (parent name : List ℕ) (k t : ColType) → own_kinds header names before s ≡ k ∷ [] → Above before parent → (b : Bool)
      → (if b then Ok k else column_kind (made_columns names (scope_of header) (path before parent)) name) ≡ Ok t
      → slice_get (version_kinds header names (s ∷ before)) (if b then version_count header before else named_version header before parent name) ≡ Some t
  defined_kind before s parent name k t own above true h =
      next_at (version_kinds header names before) (own_kinds header names before s) 0 _ (omega (arith, kind_count before))
      ∙ ap (λ xs. slice_get xs 0) own ∙ ap Some (same_ok k t h)
  defined_kind before s parent name k t own above false h = kept_at (version_kinds header names before) (own_kinds header names before s) _ t (above name t h)

  vary_kind : (before : List Statement) (s : Statement) (parent name : List ℕ) (cs : List (List ℕ)) (t : ColType)
      → own_kinds header names before s ≡ map (λ c. kind_or_int (column_kind (scope_at names (scope_of header) before parent) c)) cs
      → first_refusal (map (check_target (visible_columns names (scope_of header) (path before parent)) (path before parent)) cs) ≡ None
      → Above before parent → column_kind (made_columns names (scope_of header) (path before parent)) name ≡ Ok t
      → (o : Option ℕ) → place (same name) cs ≡ o
      → slice_get (version_kinds header names (s ∷ before)) (version_or (version_count header before) o (named_version header before parent name)) ≡ Some t
  vary_kind before s parent name cs t own ok above h None p = kept_at (version_kinds header names before) (own_kinds header names before s) _ t (above name t h)
  vary_kind before s parent name cs t own ok above h (Some i) p =
      let known : column_kind (scope_at names (scope_of header) before parent) name ≡ Ok t =
      passed_over (λ a. kind_or_int (column_kind (made_columns names (scope_of header) (path before parent)) (target_of (path before parent) a))) (made_columns names (scope_of header) (path before parent)) name t (aliases (path before parent))
      (target_is_none (visible_columns names (scope_of header) (path before parent)) (path before parent) cs name i p ok) h in
      next_at (version_kinds header names before) (own_kinds header names before s) i _ (omega (arith, kind_count before)) ∙ ap (λ xs. slice_get xs i) own
      ∙ mapped_at (λ c. kind_or_int (column_kind (scope_at names (scope_of header) before parent) c)) cs i name (place_gives name cs i p) ∙ ap (λ r. Some (kind_or_int r)) known

  at_statement : (before : List Statement) (s : Statement) (name : List ℕ) (t : ColType) → AreAccepted names (scope_of header) (s ∷ before) → Above before (parent_of s)
      → column_kind (made_columns names (scope_of header) (s ∷ path before (parent_of s))) name ≡ Ok t
      → slice_get (version_kinds header names (s ∷ before)) (own_version s (version_count header before) name (named_version header before (parent_of s) name)) ≡ Some t
  at_statement before (Define node parent column expr) name t good above h = defined_kind before (Define node parent column expr) parent name _ t refl above (same column name) h
  at_statement before (Redefine node parent column expr) name t good above h = defined_kind before (Redefine node parent column expr) parent name _ t refl above (same column name) h
  at_statement before (Vary node parent cs values tags vary) name t good above h =
      vary_kind before (Vary node parent cs values tags vary) parent name cs t refl (checked_of names (scope_of header) before (Vary node parent cs values tags vary) good.0).0 above h (place (same name) cs) refl
  at_statement before s name t good above h = kept_at (version_kinds header names before) (own_kinds header names before s) _ t (above name t h)

  has_kind : (before : List Statement) → AreAccepted names (scope_of header) before → (node : List ℕ) → Above before node
  has_kind [] good node name t h = cell_kind header name t h
  has_kind (s ∷ before) good node name t h =
      by_test (makes s node) (λ e. rw e (at_statement before s name t good (has_kind before good.1 (parent_of s)) (rw e at h)))
      (λ e. rw e (kept_at (version_kinds header names before) (own_kinds header names before s) _ t (has_kind before good.1 node name t (rw e at h))))

  -- the version of a visible column has its kind
  pub visible_kind : (before : List Statement) → AreAccepted names (scope_of header) before → (node name : List ℕ) (t : ColType) → column_kind (scope_at names (scope_of header) before node) name ≡ Ok t
      → slice_get (version_kinds header names before) (version_at header before node name) ≡ Some t
  visible_kind before good node name t h =
      has_kind before good node (target_of (path before node) name) t
      (visible_resolved names (scope_of header) (path before node) (sound_path names (scope_of header) before good node) name t h)
