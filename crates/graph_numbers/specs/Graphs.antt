-- What a contract sees of a booked graph: what it was booked from. All its numbers are functions of that.
use Rattle.std.specs.Prelude.{◌≡◌, ℕ, Bool, false, List, map, All, Option, Some, None, Result, Ok, Err, option_map, slice_get}
use Rattle.rdf_values.specs.{ColType, Column, FunctionNames, GraphCause, history, IsBookable, IsHeader, result_depends, Script, Statement, Under, Variation, variations, verdict}
use Rattle.rdf_model.specs.{Access, accesses}
use Rattle.expr_check.specs.{CallsFit, CheckedExpr, IsWellTyped}
use Rattle.graph_numbers.specs.Sites.{SiteAt, sites, depends_on, sources, versions, version_kinds}
use Rattle.graph_numbers.specs.Results.{FilterAt, ResultAt, filters, results, loops, runs, result_number, under_at}
use Rattle.graph_numbers.specs.declared.pass.Pass.{Pass as NumberedPass}
use Rattle.graph_numbers.specs.declared.version.Source.{Source}
use Rattle.graph_numbers.specs.declared.version.Version.{Version}

-- a script, the table's columns, and the names of the caller's functions
pub record GraphView : Type 0 where
  pub script : Script
  pub header : List Column
  pub names : FunctionNames

-- ---- what can be booked

-- the graph where the script is accepted, and otherwise the first refused line with its cause
abbrev pub booked_unless : GraphView → Option (ℕ × GraphCause) → Result GraphView (ℕ × GraphCause)
booked_unless g None = Ok g
booked_unless g (Some refused) = Err refused

abbrev pub booked : Script → List Column → FunctionNames → Result GraphView (ℕ × GraphCause)
booked script header names = booked_unless (record { script = script; header = header; names = names }) (verdict names header script)

-- what holds of each booked graph
pub record IsGraph (g : GraphView) : Type 0 where
  pub header : IsHeader g.header
  pub bookable : IsBookable g.script
  pub accepted : verdict g.names g.header g.script ≡ None

-- ---- its numbers

-- the statements, the latest first
abbrev pub booked_statements : GraphView → List Statement
booked_statements g = history g.script

abbrev pub graph_sites : GraphView → List SiteAt
graph_sites g = sites g.header g.names (booked_statements g)

abbrev pub graph_versions : GraphView → List Version
graph_versions g = versions g.header g.names (booked_statements g)

-- the kind of each version
abbrev pub graph_kinds : GraphView → List ColType
graph_kinds g = version_kinds g.header g.names (booked_statements g)

-- nominal, or the variation of that number
abbrev pub graph_under : GraphView → Option ℕ → Under
graph_under g u = under_at (booked_statements g) u

-- the source of each version under nominal or the variation of that number
abbrev pub graph_sources : GraphView → Option ℕ → List Source
graph_sources g u = sources g.header g.names (graph_under g u) (booked_statements g)

abbrev pub graph_variations : GraphView → List Variation
graph_variations g = variations (booked_statements g)

abbrev pub graph_filters : GraphView → List FilterAt
graph_filters g = filters g.header g.names (booked_statements g)

abbrev pub graph_results : GraphView → List ResultAt
graph_results g = results g.header g.names (booked_statements g)

abbrev pub graph_loops : GraphView → List (List NumberedPass)
graph_loops g = loops (booked_statements g) (booked_statements g)

-- for each Print the loop that it runs
abbrev pub graph_runs : GraphView → List (Option ℕ)
graph_runs g = runs (booked_statements g)

-- for each Print its result
abbrev pub graph_prints : GraphView → List (Option ℕ)
graph_prints g = map (λ (a : Access). result_number (booked_statements g) a.result) (accesses (booked_statements g))

-- ---- dependence by numbers

abbrev pub holds_at : {A : Type 0} → (A → Bool) → Option A → Bool
holds_at test None = false
holds_at test (Some a) = test a

-- the site of that number depends on the variation of that number
abbrev pub site_depends_at : GraphView → ℕ → ℕ → Bool
site_depends_at g s v = holds_at (λ x. holds_at (depends_on x) (slice_get (graph_variations g) v)) (slice_get (graph_sites g) s)

-- the result of that number depends on the variation of that number
abbrev pub result_depends_at : GraphView → ℕ → ℕ → Bool
result_depends_at g r v = holds_at (λ (x : ResultAt). holds_at (λ w. result_depends w x.booked.booking) (slice_get (graph_variations g) v)) (slice_get (graph_results g) r)

-- the expression over versions, with the kinds of the versions that it reads and its own
pub record IsSiteExpr (g : GraphView) (s : ℕ) (e : CheckedExpr) : Type 0 where
  pub tree : option_map (λ (x : SiteAt). x.tree) (slice_get (graph_sites g) s) ≡ Some e.tree
  pub kinds : All (λ (c : ℕ × ColType). slice_get (graph_kinds g) c.0 ≡ Some c.1) e.kinds
  pub typed : IsWellTyped g.names e
  pub calls : CallsFit g.names e.tree
