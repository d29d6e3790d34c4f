-- The tables that are kept while statements are booked, as functions of the statements so far, and what one statement adds to them.
use Rattle.std.specs.Prelude.{◌≡◌, ◌≤◌, ℕ, Bool, false, List, map, length, All, Some, Ok, if◌then◌else◌, slice_get, [], ◌∷◌, None, reverse, Option}
use Rattle.std.specs.List.{list_any, AllZip}
use Rattle.rdf_values.specs.{AreAccepted, Booked, Booking, callee, ColType, Column, column_kind, FunctionNames, kind_of, Line, NamedTree, renamed, results_named, same, scope_at, scope_of, Statement, booked_by, bookings, cells_of, check, kind_or_int, own_variations, takes_of, Variation, variations}
use Rattle.rdf_values.specs.declared.scripts.statement.Statement.TheVariants.{Define, Redefine, Alias, Action, Report}
use Rattle.expr_check.specs.{CallsFit, CheckedExpr, IsWellTyped}
use Rattle.graph_numbers.specs.{version_at, version_kinds, FilterAt, filters, own_filters, own_kinds, own_results, own_sites, own_versions, results, site_count, SiteAt, sites, varied_versions, Version, versions, booked_statements, graph_sources, GraphView, IsGraph, result_depends_at, site_depends_at}
use Rattle.graph.specs.Dependence.{Numbers, AreSets, own_version_sets, version_sets, own_site_sets, site_sets, own_result_sets, result_sets, read_sets, changed_set, depends_at}
use Rattle.graph.specs.Rows.{named, result_path, AreLoops, AreSourcesOf, AreAbove}
use Rattle.graph.specs.declared.tables.Change.{Change}
use Rattle.graph.specs.declared.tables.ResultPath.{ResultPath}
use Rattle.graph.specs.declared.sets.VarSet.{VarSet}
use Rattle.graph.specs.declared.tables.ResultRow.{ResultRow}
use Rattle.graph.specs.declared.tables.Tables.{Tables}
use Rattle.graph.specs.declared.loops.LoopTables.{LoopTables}

-- ---- lines as look-ups walk them, the latest first, and what a statement adds to each answer

-- the statements of lines
abbrev pub statements : List Line → List Statement
statements lines = map (λ (l : Line). l.statement) lines

-- the statement books the result of that name
abbrev pub books : Statement → List ℕ → Bool
books (Action result parent k) name = same name result
books (Report result parent) name = same name result
books s name = false

-- what a statement's alias makes of a name
abbrev pub own_target : Statement → List ℕ → List ℕ
own_target (Alias node parent column target) name = if same column name then target else name
own_target s name = name

-- the statement makes the name visible
abbrev pub own_visible : Statement → List ℕ → Bool
own_visible (Define node parent column expr) name = same column name
own_visible (Redefine node parent column expr) name = same column name
own_visible (Alias node parent column target) name = same name column
own_visible s name = false

-- the kinds of the versions so far, of statements that were accepted
pub record AreKinds (header : List Column) (names : FunctionNames) (before : List Statement) (kinds : List ColType) : Type 0 where
  pub accepted : AreAccepted names (scope_of header) before
  pub are : kinds ≡ version_kinds header names before
  pub few : length kinds ≤ 4294967295

-- a visible column with its kind and its version
pub record IsFound (header : List Column) (names : FunctionNames) (before : List Statement) (node : List ℕ) (kinds : List ColType) (name : List ℕ) (t : ColType) (n : ℕ) : Type 0 where
  pub kind : column_kind (scope_at names (scope_of header) before node) name ≡ Ok t
  pub number : version_at header before node name ≡ n
  pub own : slice_get kinds n ≡ Some t

-- an expression that was checked at a node, by versions
pub record IsCheckedAt (header : List Column) (names : FunctionNames) (before : List Statement) (node : List ℕ) (e : NamedTree) (c : CheckedExpr) : Type 0 where
  pub kind : kind_of (scope_at names (scope_of header) before node) names e ≡ Ok c.kind
  pub tree : c.tree ≡ renamed (version_at header before node) (callee names) e
  pub kinds : All (λ (k : ℕ × ColType). slice_get (version_kinds header names before) k.0 ≡ Some k.1) c.kinds
  pub typed : IsWellTyped names c
  pub calls : CallsFit names c.tree

-- a result of that name among these passes the test
abbrev pub result_in : (Booking → Bool) → List ℕ → List Booked → Bool
result_in test name bs = list_any (λ (b : Booked). test b.booking) (results_named name bs)

-- a site's expression, with the kinds of its versions
pub record IsSite (kinds : List ColType) (names : FunctionNames) (x : SiteAt) (c : CheckedExpr) : Type 0 where
  pub tree : x.tree ≡ c.tree
  pub reads : All (λ (k : ℕ × ColType). slice_get kinds k.0 ≡ Some k.1) c.kinds
  pub typed : IsWellTyped names c
  pub calls : CallsFit names c.tree

-- one for each site
abbrev pub AreSites : List ColType → FunctionNames → List SiteAt → List CheckedExpr → Type 0
AreSites kinds names xs cs = AllZip (IsSite kinds names) xs cs

-- a result's name, and how many histogram cells and Takes one of its passes has
pub record IsRow (b : Booked) (r : ResultRow) : Type 0 where
  pub name : r.name ≡ b.name
  pub cells : r.cells ≡ cells_of b.booking
  pub takes : r.takes ≡ takes_of b.booking

-- one for each result, with the variations on which it depends
abbrev pub AreRows : List Booked → List Numbers → List ResultRow → Type 0
AreRows bs ds rs = AllZip IsRow bs rs × AreSets ds (map (λ (r : ResultRow). r.set) rs)

-- what the loop reads of results
abbrev pub paths : List ResultRow → List ResultPath
paths rs = map (λ (r : ResultRow). r.path) rs

-- the row of the result that a statement books
pub record IsBookedRow (header : List Column) (names : FunctionNames) (before : List Statement) (s : Statement) (r : ResultRow) : Type 0 where
  pub rows : AreRows (booked_by before s) (own_result_sets header names before s) (r ∷ [])
  pub path : r.path ∷ [] ≡ map result_path (own_results header names before s)

-- the tables of statements that were accepted
pub record AreTables (header : List Column) (names : FunctionNames) (before : List Statement) (t : Tables) : Type 0 where
  pub version_rows : t.versions.items ≡ versions header names before
  pub versions : AreKinds header names before t.kinds.items
  pub version_sets : AreSets (version_sets header names before) t.version_sets.items
  pub sites : AreSites (version_kinds header names before) names (sites header names before) t.sites.items
  pub site_sets : AreSets (site_sets header names before) t.site_sets.items
  pub filters : t.filters.items ≡ map (λ (f : FilterAt). f.sites) (filters header names before)
  pub paths : paths t.results.items ≡ map result_path (results header names before)
  pub results : AreRows (bookings before) (result_sets header names before) t.results.items
  pub variations : t.variations ≡ variations before

-- an accepted statement, and what it adds
pub record IsGain (header : List Column) (names : FunctionNames) (before : List Statement) (s : Statement) (g : Tables) : Type 0 where
  pub accepted : check names (scope_of header) before s ≡ None
  pub version_rows : g.versions.items ≡ own_versions header names before s
  pub kinds : g.kinds.items ≡ own_kinds header names before s
  pub version_sets : AreSets (own_version_sets header names before (version_sets header names before) s) g.version_sets.items
  pub sites : AreSites (version_kinds header names before) names (own_sites header names before s) g.sites.items
  pub site_sets : AreSets (own_site_sets header names before s) g.site_sets.items
  pub filters : g.filters.items ≡ map (λ (f : FilterAt). f.sites) (own_filters header names before s)
  pub results : AreRows (booked_by before s) (own_result_sets header names before s) g.results.items
  pub paths : paths g.results.items ≡ map result_path (own_results header names before s)
  pub variations : g.variations ≡ own_variations s

-- tables grow by what one more accepted statement adds
abbrev pub GrowBy : Tables → Tables → Tables → Type 0
GrowBy old g new = (header : List Column) (names : FunctionNames) (before : List Statement) (s : Statement) → AreTables header names before old → IsGain header names before s g → AreTables header names (s ∷ before) new

-- ---- forms of gains

-- these versions with their kinds, these checked expressions as sites, with what each depends on, and these filters, results and variations
pub record Gives (made : List Version) (types : List ColType) (made_sets : List Numbers) (checked : List CheckedExpr) (checked_sets : List Numbers) (labelled : List (List ℕ)) (booked : List ResultRow) (varied : List Variation) (g : Tables) : Type 0 where
  pub version_rows : g.versions.items ≡ made
  pub kinds : g.kinds.items ≡ types
  pub version_sets : AreSets made_sets g.version_sets.items
  pub sites : g.sites.items ≡ checked
  pub site_sets : AreSets checked_sets g.site_sets.items
  pub filters : g.filters.items ≡ labelled
  pub results : g.results.items ≡ booked
  pub variations : g.variations ≡ varied

-- nothing
abbrev pub IsEmptyGain : Tables → Type 0
IsEmptyGain g = Gives [] [] [] [] [] [] [] [] g

-- a result
abbrev pub IsRowGain : ResultRow → Tables → Type 0
IsRowGain r g = Gives [] [] [] [] [] [] (r ∷ []) [] g

-- a Filter's site, over versions with those sets, and its rows
abbrev pub IsFilterGain : List VarSet → CheckedExpr → List (List ℕ) → Tables → Type 0
IsFilterGain versions c rows g = Gives [] [] [] (c ∷ []) (read_sets versions (c ∷ [])) rows [] [] g

-- a site of that number, over versions with those sets, and the version that it makes
abbrev pub IsColumnGain : List VarSet → ℕ → CheckedExpr → Tables → Type 0
IsColumnGain versions site c g = Gives (Version.Computed site ∷ []) (c.kind ∷ []) (read_sets versions (c ∷ [])) (c ∷ []) (read_sets versions (c ∷ [])) [] [] [] g

-- an expression that was checked at a node as a site, over versions with those sets, and the version that it makes
pub record IsMadeGain (header : List Column) (names : FunctionNames) (before : List Statement) (versions : List VarSet) (parent : List ℕ) (expr : NamedTree) (g : Tables) : Type 0 where
  pub site : CheckedExpr
  pub checked : IsCheckedAt header names before parent expr site
  pub gain : IsColumnGain versions (site_count header names before) site g

-- the columns, sites and variations of a Vary
abbrev pub IsVaryGain : List Column → FunctionNames → List Statement → Tables → Change → List CheckedExpr → Tables → Type 0
IsVaryGain header names before t c cs g =
    Gives
    (varied_versions header names before c.parent.now c.values.now c.tags.now 0 c.columns.now)
    (map (λ n. kind_or_int (column_kind (scope_at names (scope_of header) before c.parent.now) n)) c.columns.now)
    (map (changed_set header before t.version_sets.items c.parent.now (length (variations before)) (length c.tags.now)) c.columns.now)
    cs (read_sets t.version_sets.items cs) [] [] (named c.name.now c.tags.now) g

-- ---- what the fields of a graph are of what it was booked from

-- lines, the latest first, over a table's columns, with the functions' names
abbrev pub view_of : List Line → List Column → FunctionNames → GraphView
view_of lines header names = record { script = record { lines = reverse lines }; header = header; names = names }

-- the fields are those of the graph, and their lengths fit 32 bits
pub record IsBooked (g : GraphView) (t : Tables) (l : LoopTables) : Type 0 where
  pub graph : IsGraph g
  pub tables : AreTables g.header g.names (booked_statements g) t
  pub loops : AreLoops (booked_statements g) (booked_statements g) l
  pub site_sets : (s v : ℕ) → depends_at (site_sets g.header g.names (booked_statements g)) s v ≡ site_depends_at g s v
  pub result_sets : (n v : ℕ) → depends_at (result_sets g.header g.names (booked_statements g)) n v ≡ result_depends_at g n v
  pub sources : (u : Option ℕ) → AreSourcesOf t.versions.items u (graph_sources g u)
  pub above : AreAbove t.versions.items
  pub few_results : length t.results.items ≤ 256
  pub few_filters : length t.filters.items ≤ 256
  pub few_prints : length l.prints.items ≤ 256
  pub few_loops : length l.loops.items ≤ 256
  pub few_sites : length t.sites.items ≤ 16777216
  pub few_versions : length t.versions.items ≤ 4294967295
