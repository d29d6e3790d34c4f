-- Sets of variations, and which variations versions, sites and results depend on, by numbers.
use Rattle.std.specs.Prelude.{Some, Ok, ◌≡◌, ℕ, zero, suc, ◌+◌, Bool, false, if◌then◌else◌, nat_eq, ◌||◌, ◌&&◌, List, [], ◌∷◌, ◌++◌, map, length, slice_get, nat_le, nat_lt}
use Rattle.std.specs.Int.{bit_at}
use Rattle.graph.specs.declared.sets.VarSet.{VarSet}
use Rattle.std.specs.List.{list_any, AllZip}
use Rattle.rdf_values.specs.{callee, ColType, Column, column_depends, column_kind, columns_in, columns_of, FunctionNames, NamedTree, path, renamed, scope_at, scope_of, Statement, Variation, variations}
use Rattle.rdf_values.specs.declared.scripts.statement.Statement.TheVariants.{Define, Redefine, Vary, Action, Report}
use Rattle.graph_numbers.specs.{booked_statements, filter_sites, graph_variations, GraphView, holds_at, IsGraph, named_version, own_sites, SiteAt, version_at}
use Rattle.expr_check.specs.{CheckedExpr}

-- the number is in the set
abbrev pub has : VarSet → ℕ → Bool
has s v = nat_eq (bit_at s.bits v) 1

-- how many members are below a number
unfoldable pub members_below : VarSet → ℕ → ℕ
members_below s zero = 0
members_below s (suc v) = members_below s v + (if has s v then 1 else 0)

-- a set of variations by their numbers
abbrev pub Numbers : Type 0
Numbers = ℕ → Bool

-- the set at a place has the variation
abbrev pub depends_at : List Numbers → ℕ → ℕ → Bool
depends_at sets c v = holds_at (λ (d : Numbers). d v) (slice_get sets c)

-- the set at one of the places has it
abbrev pub any_depends : List Numbers → List ℕ → ℕ → Bool
any_depends sets cs v = list_any (λ c. depends_at sets c v) cs

-- one of so many numbers from the first on
abbrev pub is_among_own : ℕ → ℕ → ℕ → Bool
is_among_own first count v = nat_le first v && nat_lt v (first + count)

-- over a table with these columns, with the caller's functions
module _ (header : List Column) (names : FunctionNames) where
  -- an expression at a node depends on what the versions of its columns do, which have these sets
  abbrev pub expression_set : List Statement → List Numbers → List ℕ → NamedTree → Numbers
  expression_set before sets parent e v = any_depends sets (columns_in (renamed (version_at header before parent) (callee names) e)) v

  -- a column that a Vary changes depends on the Vary's own variations and on those of the version below
  abbrev pub varied_set : List Statement → List Numbers → List ℕ → ℕ → List ℕ → Numbers
  varied_set before sets parent tags column v = is_among_own (length (variations before)) tags v || depends_at sets (named_version header before parent column) v

  -- the sets of the columns that a statement makes or changes, over the sets of the versions above
  abbrev pub own_version_sets : List Statement → List Numbers → Statement → List Numbers
  own_version_sets before sets (Define node parent column expr) = expression_set before sets parent expr ∷ []
  own_version_sets before sets (Redefine node parent column expr) = expression_set before sets parent expr ∷ []
  own_version_sets before sets (Vary node parent columns values tags vary) = map (varied_set before sets parent (length tags)) columns
  own_version_sets before sets s = []

  -- the set of each version of the statements so far
  abbrev pub version_sets : List Statement → List Numbers
  version_sets [] = map (λ (c : Column). λ v. false) header
  version_sets (s ∷ before) = version_sets before ++ own_version_sets before (version_sets before) s

  -- a site depends on what the versions that it reads do
  abbrev pub site_set : List Statement → SiteAt → Numbers
  site_set before x v = any_depends (version_sets before) (columns_in x.tree) v

  -- the sets of the sites of a statement
  abbrev pub own_site_sets : List Statement → Statement → List Numbers
  own_site_sets before s = map (site_set before) (own_sites header names before s)

  -- the set of each site of the statements so far
  abbrev pub site_sets : List Statement → List Numbers
  site_sets [] = []
  site_sets (s ∷ before) = site_sets before ++ own_site_sets before s

  -- an action at a node depends on what the filters above it and the columns that it reads do
  abbrev pub action_set : List Statement → List ℕ → List (List ℕ) → Numbers
  action_set before parent columns v =
      any_depends (site_sets before) (filter_sites header names before parent) v
      || any_depends (version_sets before) (map (version_at header before parent) columns) v

  -- the set of the result of a statement; a report depends on nothing
  abbrev pub own_result_sets : List Statement → Statement → List Numbers
  own_result_sets before (Action result parent k) = action_set before parent (columns_of k) ∷ []
  own_result_sets before (Report result parent) = (λ v. false) ∷ []
  own_result_sets before s = []

  -- the set of each result of the statements so far
  abbrev pub result_sets : List Statement → List Numbers
  result_sets [] = []
  result_sets (s ∷ before) = result_sets before ++ own_result_sets before s

-- the set has these members
abbrev pub IsSet : Numbers → VarSet → Type 0
IsSet d s = (v : ℕ) → has s v ≡ d v

-- one for each
abbrev pub AreSets : List Numbers → List VarSet → Type 0
AreSets ds ss = AllZip IsSet ds ss

-- the set at a place has the variation
abbrev pub has_at : List VarSet → ℕ → ℕ → Bool
has_at sets c v = holds_at (λ (s : VarSet). has s v) (slice_get sets c)

-- the set at one of the places has it
abbrev pub any_has : List VarSet → List ℕ → ℕ → Bool
any_has sets cs v = list_any (λ c. has_at sets c v) cs

-- what an expression depends on, where versions have those sets
abbrev pub read_set : List VarSet → CheckedExpr → Numbers
read_set sets c v = any_has sets (columns_in c.tree) v

abbrev pub read_sets : List VarSet → List CheckedExpr → List Numbers
read_sets sets cs = map (read_set sets) cs

-- what a column that a Vary at a node changes depends on
abbrev pub changed_set : List Column → List Statement → List VarSet → List ℕ → ℕ → ℕ → List ℕ → Numbers
changed_set header before sets parent first tags column v = is_among_own first tags v || has_at sets (named_version header before parent column) v

-- a visible column depends on what its version does
abbrev pub VersionsDependAsColumns : Type 0
VersionsDependAsColumns =
    (g : GraphView) → IsGraph g → (node name : List ℕ) (t : ColType)
    → column_kind (scope_at g.names (scope_of g.header) (booked_statements g) node) name ≡ Ok t
    → (v : ℕ) (w : Variation) → slice_get (graph_variations g) v ≡ Some w
    → depends_at (version_sets g.header g.names (booked_statements g)) (version_at g.header (booked_statements g) node name) v
    ≡ column_depends w (path (booked_statements g) node) name
