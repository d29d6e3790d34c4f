-- Laws of a booked graph's numbers: what they are of the script's own definitions. Each is a clause of `laws_hold`, and so proved.
use Rattle.std.specs.Prelude.{◌≡◌, ◌<◌, ℕ, List, length, map, Option, Some, None, Ok, slice_get, option_and_then, option_map}
use Rattle.rdf_values.specs.{ActionAt, ActionKind, bookings, ColType, column_kind, EachColumn, fn_names, history, named_before, Path, path, place, ReportOn, same_variation, scope_at, scope_of, Script, Under, Value, Variation}
use Rattle.rdf_model.specs.{Access, accesses, booking_outcome, call_outcome, column_value, Dataset, evaluate, loop_passes, loop_results, Outcome, same_site}
use Rattle.graph_numbers.specs.Graphs.{GraphView, IsGraph, graph_filters, graph_loops, graph_results, graph_runs, graph_sites, graph_sources, graph_variations, graph_versions}
use Rattle.graph_numbers.specs.Results.{booking_numbers, FilterAt, ResultAt, pass_at}
use Rattle.graph_numbers.specs.Sites.{SiteAt, condition_in, conditions_on, site_outcome, IsBelow, IsSourceOf, site_value, source_in, source_value, sources, version_at}
use Rattle.graph_numbers.specs.declared.version.Source.{Source}
use Rattle.graph_numbers.specs.declared.version.Version.{Version}

-- the graph of a script over a table, with the functions' names
abbrev pub graph_of : Script → Dataset → GraphView
graph_of script d = record { script = script; header = d.columns; names = fn_names d.fns }

-- what the site of that number comes to in a row
abbrev pub site_by : Script → Dataset → List Value → Under → ℕ → Outcome ⊥ Value
site_by script d row u s = site_value (λ x. site_outcome d.fns d.columns row x u) (slice_get (graph_sites (graph_of script d)) s)

-- what the version of that number is given by
abbrev pub source_by : Script → Dataset → Under → ℕ → Source
source_by script d u c = source_in (sources d.columns (fn_names d.fns) u (history script)) c

-- what the version of that number comes to in a row
abbrev pub version_by : Script → Dataset → List Value → Under → ℕ → Outcome ⊥ Value
version_by script d row u c = source_value row (site_by script d row u) (source_by script d u c)

-- a site comes to what its expression over versions does on what these come to
abbrev pub SitesAreEvaluations : Type 0
SitesAreEvaluations =
    (script : Script) (d : Dataset) → IsGraph (graph_of script d) → (row : List Value) (u : Under) (s : ℕ) (x : SiteAt)
    → slice_get (graph_sites (graph_of script d)) s ≡ Some x
    → site_outcome d.fns d.columns row x u ≡ evaluate (version_by script d row u) (call_outcome d.fns) x.tree

-- a visible column comes to what its version does
abbrev pub ColumnsAreVersions : Type 0
ColumnsAreVersions =
    (script : Script) (d : Dataset) → IsGraph (graph_of script d) → (row : List Value) (u : Under) (node name : List ℕ) (t : ColType)
    → column_kind (scope_at (fn_names d.fns) (scope_of d.columns) (history script) node) name ≡ Ok t
    → column_value d.fns d.columns row (path (history script) node) u name ≡ version_by script d row u (version_at d.columns (history script) node name)

-- a site reads versions, and under every variation each of them is a cell of the table or given by a site of a lower number
abbrev pub SitesReadBelow : Type 0
SitesReadBelow =
    (script : Script) (d : Dataset) → IsGraph (graph_of script d) → (u : Under) (s : ℕ) (x : SiteAt)
    → slice_get (graph_sites (graph_of script d)) s ≡ Some x
    → EachColumn (λ c. (c < length (graph_versions (graph_of script d))) × IsBelow (length d.columns) s (source_by script d u c)) x.tree

-- a site is found by its node and places
abbrev pub SitesAreApart : Type 0
SitesAreApart =
    (script : Script) (d : Dataset) → IsGraph (graph_of script d) → (s : ℕ) (x : SiteAt)
    → slice_get (graph_sites (graph_of script d)) s ≡ Some x
    → place (λ (y : SiteAt). same_site x.site y.site) (graph_sites (graph_of script d)) ≡ Some s

-- and a variation by its name and tag
abbrev pub VariationsAreApart : Type 0
VariationsAreApart =
    (script : Script) (d : Dataset) → IsGraph (graph_of script d) → (v : ℕ) (x : Variation)
    → slice_get (graph_variations (graph_of script d)) v ≡ Some x
    → place (same_variation x) (graph_variations (graph_of script d)) ≡ Some v

-- there is a result for each that is booked, in their order
abbrev pub ResultsAreBookings : Type 0
ResultsAreBookings = (g : GraphView) → map (λ (r : ResultAt). r.booked) (graph_results g) ≡ bookings (history g.script)

-- a row comes to for a result what it does by the numbers of its filters and versions
abbrev pub ResultsByNumbers : Type 0
ResultsByNumbers =
    (script : Script) (d : Dataset) → IsGraph (graph_of script d) → (row : List Value) (u : Under) (n : ℕ) (r : ResultAt)
    → slice_get (graph_results (graph_of script d)) n ≡ Some r
    → booking_outcome d.fns d.columns row r.booked.booking u
    ≡ booking_numbers (site_by script d row None) (site_by script d row u) (version_by script d row u) (graph_filters (graph_of script d)) r r.booked.booking

-- a loop has the passes of the results that it fills
abbrev pub LoopsAreTheScripts : Type 0
LoopsAreTheScripts =
    (g : GraphView)
    → map (map (pass_at (history g.script))) (graph_loops g) ≡ map (λ results. map (λ p. Some p) (loop_passes (history g.script) results)) (loop_results (history g.script))

-- each Print runs the loop of the results that it fills
abbrev pub PrintsRunTheirLoops : Type 0
PrintsRunTheirLoops =
    (g : GraphView)
    → map (λ (a : Access). a.fills) (accesses (history g.script)) ≡ map (λ (o : Option ℕ). option_and_then (slice_get (loop_results (history g.script))) o) (graph_runs g)

-- each version says what its source is
abbrev pub VersionsHaveSources : Type 0
VersionsHaveSources =
    (g : GraphView) → IsGraph g → (u : Option ℕ) (c : ℕ) (x : Version) → slice_get (graph_versions g) c ≡ Some x
    → IsSourceOf (slice_get (graph_sources g u)) u x (slice_get (graph_sources g u) c)

-- the named filters are the script's, in their order
abbrev pub FiltersAreTheScripts : Type 0
FiltersAreTheScripts = (g : GraphView) → map (λ (f : FilterAt). f.at) (graph_filters g) ≡ named_before (history g.script)

-- the sites of a named filter evaluate the filters above it and its own, head first
abbrev pub FiltersHaveSites : Type 0
FiltersHaveSites =
    (g : GraphView) (n : ℕ) (f : FilterAt) → slice_get (graph_filters g) n ≡ Some f
    → map (condition_in (graph_sites g)) f.sites ≡ map (λ x. Some x) (conditions_on f.at)

-- those of an action evaluate the filters above it
abbrev pub ActionsHaveSites : Type 0
ActionsHaveSites =
    (g : GraphView) (n : ℕ) (r : ResultAt) (k : ActionKind) (at : Path) → slice_get (graph_results g) n ≡ Some r → r.booked.booking ≡ ActionAt k at
    → map (condition_in (graph_sites g)) r.filters ≡ map (λ x. Some x) (conditions_on at)

-- the filters that a Report covers by their numbers are those of its booking, in their order
abbrev pub ReportsCoverFilters : Type 0
ReportsCoverFilters =
    (script : Script) (d : Dataset) (n : ℕ) (r : ResultAt) (paths : List Path)
    → slice_get (graph_results (graph_of script d)) n ≡ Some r → r.booked.booking ≡ ReportOn paths
    → map (λ f. option_map (λ (x : FilterAt). x.at) (slice_get (graph_filters (graph_of script d)) f)) r.covers ≡ map (λ p. Some p) paths
