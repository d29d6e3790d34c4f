-- The sites of a script in the order of booking: its expressions that are evaluated as a whole.
use Rattle.std.specs.Prelude.{ℕ, suc, ◌+◌, List, [], ◌∷◌, length, Option, Some, None, if◌then◌else◌, ◌++◌, map, zero, Bool, option_map, slice_get, ⊤, true, false, nat_eq, ◌≡◌, ◌<◌, slice_index_or}
use Rattle.rdf_values.specs.{Column, makes, parent_of, path, place, same, Statement, target_of, ColType, column_kind, FunctionNames, kind_of, kind_or_int, scope_at, scope_of, callee, Function, NamedTree, NumTree, Path, renamed, site_depends, Under, Value, Variation, variations, VaryValues}
use Rattle.rdf_values.specs.declared.scripts.statement.Statement.TheVariants.{Define, Redefine, Vary, Filter}
use Rattle.rdf_values.specs.declared.scripts.statement.VaryValues.TheVariants.{Lists, Vector}
use Rattle.rdf_model.specs.{column_value, expression_value, Outcome, Site, site_at, ◌>>=◌, call_outcome, evaluate, Faults, Gives, is_need, Needs, truth_of, without, own_place, tag_element, untyped}
use Rattle.graph_numbers.specs.declared.version.Source.{Source}
use Rattle.graph_numbers.specs.declared.version.Version.{Version}

-- ---- the versions of columns: one for each column of the table, then one for each column that a statement makes or changes

-- the place of the column of that name, and their number where there is none
abbrev pub column_place : List Column → List ℕ → ℕ
column_place [] name = 0
column_place (c ∷ cs) name = if same c.name name then 0 else suc (column_place cs name)

-- the columns that a statement makes or changes
abbrev pub own_columns : Statement → List (List ℕ)
own_columns (Define node parent column expr) = column ∷ []
own_columns (Redefine node parent column expr) = column ∷ []
own_columns (Vary node parent columns values tags vary) = columns
own_columns s = []

-- the number at a place after the first, where there is a place, and otherwise the one above
abbrev pub version_or : ℕ → Option ℕ → ℕ → ℕ
version_or first None above = above
version_or first (Some i) above = first + i

-- the version of a column that is no alias at the node of a statement, whose versions are numbered from the first on
abbrev pub own_version : Statement → ℕ → List ℕ → ℕ → ℕ
own_version (Define node parent column expr) first name above = if same column name then first else above
own_version (Redefine node parent column expr) first name above = if same column name then first else above
own_version (Vary node parent columns values tags vary) first name above = version_or first (place (same name) columns) above
own_version s first name above = above

-- over a table with these columns
module _ (header : List Column) where
  -- how many versions there are after the statements so far
  abbrev pub version_count : List Statement → ℕ
  version_count [] = length header
  version_count (s ∷ before) = version_count before + length (own_columns s)

  -- the version of a column that is no alias, read at a node: a walk from the node up to the head
  abbrev pub named_version : List Statement → List ℕ → List ℕ → ℕ
  named_version [] node name = column_place header name
  named_version (s ∷ before) node name =
      if makes s node then own_version s (version_count before) name (named_version before (parent_of s) name) else named_version before node name

  -- the version of a column, read at a node, an alias read as its target
  abbrev pub version_at : List Statement → List ℕ → List ℕ → ℕ
  version_at before node name = named_version before node (target_of (path before node) name)

-- ---- The kinds of versions.

-- over a table with these columns, with the caller's functions
module _ (header : List Column) (names : FunctionNames) where
  -- the kinds of the columns that a statement makes or changes: that of the expression, or that which the column has above
  abbrev pub own_kinds : List Statement → Statement → List ColType
  own_kinds before (Define node parent column expr) = kind_or_int (kind_of (scope_at names (scope_of header) before parent) names expr) ∷ []
  own_kinds before (Redefine node parent column expr) = kind_or_int (kind_of (scope_at names (scope_of header) before parent) names expr) ∷ []
  own_kinds before (Vary node parent columns values tags vary) = map (λ c. kind_or_int (column_kind (scope_at names (scope_of header) before parent) c)) columns
  own_kinds before s = []

  -- the kind of each version of the statements so far
  abbrev pub version_kinds : List Statement → List ColType
  version_kinds [] = map (λ (c : Column). c.kind) header
  version_kinds (s ∷ before) = version_kinds before ++ own_kinds before s

-- a site by its node and places, the path at whose end its columns are read, and its expression: as it is written, and with each
-- column by its version and each function by its place
pub record SiteAt : Type 0 where
  pub site : Site
  pub at : Path
  pub expr : NamedTree
  pub tree : NumTree

-- the place of the first of a list's expressions among those of all lists before it
abbrev pub list_start : {A : Type 0} → List (List A) → ℕ → ℕ
list_start lists zero = 0
list_start [] (suc i) = 0
list_start (es ∷ lists) (suc i) = length es + list_start lists i

-- the site of a Filter, which is numbered next
abbrev pub own_filter_site : Statement → ℕ → List ℕ
own_filter_site (Filter node parent expr label) next = next ∷ []
own_filter_site s next = []

-- over a table with these columns, with the caller's functions
module _ (header : List Column) (names : FunctionNames) where
  -- a site that reads its columns at a node
  abbrev pub site_in : List Statement → List ℕ → Site → NamedTree → SiteAt
  site_in before parent site e =
      record { site = site; at = path before parent; expr = e; tree = renamed (version_at header before parent) (callee names) e }

  -- the sites of a Vary's list for the column at place i, from tag k on
  abbrev pub list_sites : List Statement → List ℕ → List ℕ → ℕ → ℕ → List NamedTree → List SiteAt
  list_sites before parent node i k [] = []
  list_sites before parent node i k (e ∷ es) =
      site_in before parent (record { node = node; column = i; tag = k }) e ∷ list_sites before parent node i (suc k) es

  -- the sites of a Vary's lists, from column i on
  abbrev pub lists_sites : List Statement → List ℕ → List ℕ → ℕ → List (List NamedTree) → List SiteAt
  lists_sites before parent node i [] = []
  lists_sites before parent node i (es ∷ lists) = list_sites before parent node i 0 es ++ lists_sites before parent node (suc i) lists

  -- the sites of a statement after those before it
  abbrev pub own_sites : List Statement → Statement → List SiteAt
  own_sites before (Define node parent column expr) = site_in before parent (site_at node) expr ∷ []
  own_sites before (Redefine node parent column expr) = site_in before parent (site_at node) expr ∷ []
  own_sites before (Filter node parent expr label) = site_in before parent (site_at node) expr ∷ []
  own_sites before (Vary node parent columns (Lists lists) tags vary) = lists_sites before parent node 0 lists
  own_sites before (Vary node parent columns (Vector e) tags vary) = site_in before parent (site_at node) e ∷ []
  own_sites before s = []

  -- the sites of the statements so far
  abbrev pub sites : List Statement → List SiteAt
  sites [] = []
  sites (s ∷ before) = sites before ++ own_sites before s

  -- how many sites there are after the statements so far
  abbrev pub site_count : List Statement → ℕ
  site_count before = length (sites before)

  -- the sites of the filters above a node, head first
  abbrev pub filter_sites : List Statement → List ℕ → List ℕ
  filter_sites [] node = []
  filter_sites (s ∷ before) node =
      if makes s node then filter_sites before (parent_of s) ++ own_filter_site s (site_count before) else filter_sites before node

-- the site's expression depends on the variation
abbrev pub depends_on : SiteAt → Variation → Bool
depends_on s v = site_depends v s.at s.expr

-- with the caller's functions, in one row of a table with these columns
module _ (fns : List Function) (columns : List Column) (row : List Value) where
  -- what a site comes to under nominal or a variation
  abbrev pub site_outcome : {M : Type 0} → SiteAt → Under → Outcome M Value
  site_outcome s u = expression_value fns (column_value fns columns row s.at u) s.expr

-- ---- filters of a path

-- a filter: its site, the path above it, and what is tried there
pub record Condition : Type 0 where
  pub site : Site
  pub at : Path
  pub expr : NamedTree

-- the filters of a path, head first
abbrev pub conditions_on : Path → List Condition
conditions_on [] = []
conditions_on (Filter node parent expr label ∷ up) = conditions_on up ++ record { site = site_at node; at = up; expr = expr } ∷ []
conditions_on (s ∷ up) = conditions_on up

-- what a site evaluates, and where
abbrev pub condition_of : SiteAt → Condition
condition_of x = record { site = x.site; at = x.at; expr = x.expr }

-- what the site of that number evaluates, where there is one
abbrev pub condition_in : List SiteAt → ℕ → Option Condition
condition_in sites s = option_map condition_of (slice_get sites s)

-- ---- Which versions the evaluation of a site meets, and sets of sites that have what is read.

-- the evaluation of the site meets the version: where that is missing, it comes to a need
abbrev pub meets : List Function → (ℕ → Outcome ℕ Value) → SiteAt → ℕ → Bool
meets fns version x c = is_need (evaluate (without nat_eq c version) (call_outcome fns) x.tree)

-- what follows an answer
abbrev pub IfGiven : {A : Type 0} → Outcome ⊥ A → Type 0 → Type 0
IfGiven (Gives a) P = P
IfGiven (Faults k) P = ⊤
IfGiven (Needs m) P = ⊤

-- what follows where filters are passed
abbrev pub IfPassed : Outcome ⊥ Bool → Type 0 → Type 0
IfPassed (Gives true) P = P
IfPassed (Gives false) P = ⊤
IfPassed (Faults k) P = ⊤
IfPassed (Needs m) P = ⊤

-- a set of sites
module _ (D : ℕ → Type 0) where
  -- it has the site of the source, if that is one
  abbrev pub HasSourceIn : Source → Type 0
  HasSourceIn (Source.Cell col) = ⊤
  HasSourceIn (Source.Site s) = D s
  HasSourceIn (Source.Element s k tags) = D s

  -- it has the sites of the filters that are tried
  abbrev pub HasFilters : (ℕ → Outcome ⊥ Value) → List ℕ → Type 0
  HasFilters site [] = ⊤
  HasFilters site (s ∷ ss) = D s × IfPassed (site s >>= truth_of) (HasFilters site ss)

  -- it has the sites of the versions that are read
  abbrev pub HasInputs : (ℕ → Source) → (ℕ → Outcome ⊥ Value) → List ℕ → Type 0
  HasInputs source version [] = ⊤
  HasInputs source version (c ∷ cs) = HasSourceIn (source c) × IfGiven (version c) (HasInputs source version cs)

-- the numbers from n on, one for each element
abbrev pub numbers_from : {A : Type 0} → ℕ → List A → List ℕ
numbers_from n [] = []
numbers_from n (x ∷ xs) = n ∷ numbers_from (suc n) xs

-- ---- sources

-- each of the table's columns
abbrev pub cell_sources : ℕ → List Column → List Source
cell_sources n [] = []
cell_sources n (c ∷ cs) = Source.Cell n ∷ cell_sources (suc n) cs

-- the source where the variation has a place among the Vary's own, and otherwise the one below
abbrev pub own_source : VaryValues → ℕ → ℕ → ℕ → Option ℕ → Source → Source
own_source values first i tags None below = below
own_source (Lists lists) first i tags (Some k) below = Source.Site (first + list_start lists i + k)
own_source (Vector e) first i tags (Some k) below = Source.Element first k tags

-- the source of a version; the table's first column where there is no such version
abbrev pub source_in : List Source → ℕ → Source
source_in sources c = slice_index_or sources c (Source.Cell 0)

-- the source is one of so many columns of the table, or a site below s
abbrev pub IsBelow : ℕ → ℕ → Source → Type 0
IsBelow width s (Source.Cell col) = col < width
IsBelow width s (Source.Site t) = t < s
IsBelow width s (Source.Element t k tags) = t < s

-- over a table with these columns, with the caller's functions
module _ (header : List Column) (names : FunctionNames) where
  module _ (u : Under) where
    -- the sources of the columns that a Vary changes, from place i on, over the sources below
    abbrev pub varied_sources : List Statement → List Source → List ℕ → VaryValues → List (List ℕ) → List ℕ → ℕ → List (List ℕ) → List Source
    varied_sources before below parent values tags vary i [] = []
    varied_sources before below parent values tags vary i (name ∷ columns) =
        own_source values (site_count header names before) i (length tags) (own_place u vary tags) (source_in below (named_version header before parent name))
        ∷ varied_sources before below parent values tags vary (suc i) columns

    -- the sources of the columns that a statement makes or changes
    abbrev pub own_sources : List Statement → List Source → Statement → List Source
    own_sources before below (Define node parent column expr) = Source.Site (site_count header names before) ∷ []
    own_sources before below (Redefine node parent column expr) = Source.Site (site_count header names before) ∷ []
    own_sources before below (Vary node parent columns values tags vary) = varied_sources before below parent values tags vary 0 columns
    own_sources before below s = []

    -- the source of each version of the statements so far
    abbrev pub sources : List Statement → List Source
    sources [] = cell_sources 0 header
    sources (s ∷ before) = sources before ++ own_sources before (sources before) s

  -- ---- versions

  -- each of the table's columns
  abbrev pub cell_versions : ℕ → List Column → List Version
  cell_versions n [] = []
  cell_versions n (c ∷ cs) = Version.Cell n ∷ cell_versions (suc n) cs

  -- a column that a Vary changes
  abbrev pub varied_version : VaryValues → ℕ → ℕ → ℕ → List (List ℕ) → ℕ → Version
  varied_version (Lists lists) below first site tags i =
      Version.Varied below first (length tags) (numbers_from (site + list_start lists i) tags) false
  varied_version (Vector e) below first site tags i = Version.Varied below first (length tags) (site ∷ []) true

  -- the columns that a Vary changes, from place i on
  abbrev pub varied_versions : List Statement → List ℕ → VaryValues → List (List ℕ) → ℕ → List (List ℕ) → List Version
  varied_versions before parent values tags i [] = []
  varied_versions before parent values tags i (name ∷ columns) =
      varied_version values (named_version header before parent name) (length (variations before)) (site_count header names before) tags i
      ∷ varied_versions before parent values tags (suc i) columns

  -- the columns that a statement makes or changes
  abbrev pub own_versions : List Statement → Statement → List Version
  own_versions before (Define node parent column expr) = Version.Computed (site_count header names before) ∷ []
  own_versions before (Redefine node parent column expr) = Version.Computed (site_count header names before) ∷ []
  own_versions before (Vary node parent columns values tags vary) = varied_versions before parent values tags 0 columns
  own_versions before s = []

  -- the versions of the statements so far
  abbrev pub versions : List Statement → List Version
  versions [] = cell_versions 0 header
  versions (s ∷ before) = versions before ++ own_versions before s

-- ---- values

-- the value of a row's column; the outcome for which nothing is said where it has none
abbrev pub cell_value : {M : Type 0} → Option Value → Outcome M Value
cell_value None = untyped
cell_value (Some v) = Gives v

-- what a site comes to, where there is one of that number
abbrev pub site_value : {M : Type 0} → (SiteAt → Outcome M Value) → Option SiteAt → Outcome M Value
site_value value None = untyped
site_value value (Some s) = value s

-- what a source gives, by the row and what each site comes to
abbrev pub source_value : {M : Type 0} → List Value → (ℕ → Outcome M Value) → Source → Outcome M Value
source_value row site (Source.Cell col) = cell_value (slice_get row col)
source_value row site (Source.Site s) = site s
source_value row site (Source.Element s k tags) = site s >>= tag_element tags k

-- ---- a version's source

-- what the site of a version's tag gives: a site for each tag, or an element of the one site's vector for each
abbrev pub tag_source : List ℕ → ℕ → Bool → ℕ → Option Source
tag_source sites tags true k = option_map (λ s. Source.Element s k tags) (slice_get sites 0)
tag_source sites tags false k = option_map (λ s. Source.Site s) (slice_get sites k)

-- a version's source under nominal or the variation of that number: the column, the site, or under one of its own tags that
-- tag's site; under every other that of the version below it
abbrev pub IsSourceOf : (ℕ → Option Source) → Option ℕ → Version → Option Source → Type 0
IsSourceOf source u (Version.Cell col) own = own ≡ Some (Source.Cell col)
IsSourceOf source u (Version.Computed site) own = own ≡ Some (Source.Site site)
IsSourceOf source u (Version.Varied below first tags sites vector) own =
    ((k : ℕ) → k < tags → u ≡ Some (first + k) → own ≡ tag_source sites tags vector k)
    × (((k : ℕ) → k < tags → u ≡ Some (first + k) → ⊥) → own ≡ source below)
