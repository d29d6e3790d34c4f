-- What the sites and versions of a plan's graph come to in an entry, by their numbers, and what is known of them.
use Rattle.std.specs.Prelude.{◌≡◌, ⊤, ◌<◌, ℕ, Bool, List, [], length, MatchOption, Option, Some, None, Result, Ok, Err, slice_get, unwrap_or}
use Rattle.std.specs.List.{AllByRecursion}
use Rattle.rdf_values.specs.{EntryFault, fn_names, Value}
use Rattle.rdf_model.specs.{◌>>=◌, Dataset, Faults, for_all, Gives, Needs, Outcome, tag_element, truth_of}
use Rattle.graph_numbers.specs.{booked_statements, graph_of, graph_sites, graph_versions, GraphView, IsBelow, site_outcome, site_value, SiteAt, Source, source_in, source_value, sources}
use Rattle.snapshot_plan.specs.{PlanView}
use Rattle.snapshot_entries.specs.declared.known.Known.{Known}
use Rattle.snapshot_entries.specs.declared.stop.EntryStop.{EntryStop}

-- a value or a fault, as an outcome
abbrev pub outcome_of : {M A : Type 0} → Result A EntryFault → Outcome M A
outcome_of (Ok v) = Gives v
outcome_of (Err kind) = Faults kind

-- the element at the place of a tag among so many
abbrev pub element_of : {M : Type 0} → Result Value EntryFault → ℕ → ℕ → Outcome M Value
element_of r k tags = outcome_of r >>= tag_element tags k

-- the answer is what it comes to; or memory was wanted
abbrev pub IsAnswer : {A : Type 0} → Outcome ⊥ A → Result A EntryStop → Type 0
IsAnswer o (Ok a) = o ≡ Gives a
IsAnswer o (Err (EntryStop.Fault kind)) = o ≡ Faults kind
IsAnswer o (Err EntryStop.Memory) = ⊤

-- whether what a filter came to lets an entry through
abbrev pub passes_by : Outcome ⊥ Value → Outcome ⊥ Bool
passes_by o = o >>= truth_of

-- no truth value, which a table can't hold
abbrev pub IsStoredOutcome : Outcome ⊥ Value → Type 0
IsStoredOutcome (Gives (Value.Int z)) = ⊤
IsStoredOutcome (Gives (Value.Bool b)) = ⊥
IsStoredOutcome (Gives (Value.Vect zs)) = ⊤
IsStoredOutcome (Faults kind) = ⊤
IsStoredOutcome (Needs m) = ⊤

-- nor is the value
abbrev pub IsStoredValue : Value → Type 0
IsStoredValue v = IsStoredOutcome (Gives v)

-- the site that gives a version, where one does
abbrev pub site_behind : Source → Option ℕ
site_behind (Source.Cell col) = None
site_behind (Source.Site s) = Some s
site_behind (Source.Element s k tags) = Some s

-- the row of an entry
abbrev pub row_in : List (List Value) → ℕ → List Value
row_in rows e = unwrap_or (slice_get rows e) []

-- ---- what sites and versions come to

-- for a plan over a table
module _ (p : PlanView) (d : Dataset) where
  -- the plan's script, booked over the table
  abbrev pub plan_graph : GraphView
  plan_graph = graph_of p.graph.script d

  abbrev pub site_total : ℕ
  site_total = length (graph_sites plan_graph)

  -- what a site comes to in an entry, under nominal or the plan's variation
  abbrev pub site_in : ℕ → ℕ → Outcome ⊥ Value
  site_in e s = site_value (λ (x : SiteAt). site_outcome d.fns d.columns (row_in d.rows e) x p.under) (slice_get (graph_sites plan_graph) s)

  -- what gives a version its value
  abbrev pub source_of : ℕ → Source
  source_of c = source_in (sources d.columns (fn_names d.fns) p.under (booked_statements p.graph)) c

  -- what a version comes to in an entry
  abbrev pub version_in : ℕ → ℕ → Outcome ⊥ Value
  version_in e c = source_value (row_in d.rows e) (site_in e) (source_of c)

  -- the version is there, and is given by a column of the table or by a site
  abbrev pub IsReadable : ℕ → Type 0
  IsReadable c = (c < length (graph_versions plan_graph)) × IsBelow (length d.columns) site_total (source_of c)

  -- and a table can hold it
  abbrev pub IsColumn : ℕ → Type 0
  IsColumn c = IsReadable c × ((e : ℕ) → e < length d.rows → IsStoredOutcome (version_in e c))

  -- ---- what is known

  -- what is known of site s is what it comes to in its entry
  abbrev pub IsKnown : Known → ℕ → Type 0
  IsKnown k s = k.entry < length d.rows → outcome_of k.outcome ≡ site_in k.entry s

  -- so it is of each site
  pub record AreKnown (cells : List Known) : Type 0 where
    pub sized : length cells ≡ site_total
    pub each : (s : ℕ) (k : Known) → slice_get cells s ≡ Some k → IsKnown k s

-- the site was evaluated last in that entry
abbrev pub IsHeld : List Known → ℕ → ℕ → Type 0
IsHeld cells e s = MatchOption (slice_get cells s) ⊥ (λ (k : Known). k.entry ≡ e)

-- so was the site that gives it, if one does
abbrev pub IsSourceHeld : List Known → ℕ → Source → Type 0
IsSourceHeld cells e (Source.Cell col) = ⊤
IsSourceHeld cells e (Source.Site s) = IsHeld cells e s
IsSourceHeld cells e (Source.Element s k tags) = IsHeld cells e s

-- what was held of an entry is held
abbrev pub Grows : ℕ → List Known → List Known → Type 0
Grows e before after = (s : ℕ) → IsHeld before e s → IsHeld after e s

-- each of these versions
abbrev pub AreHeld : PlanView → Dataset → List Known → ℕ → List ℕ → Type 0
AreHeld p d cells e cs = AllByRecursion (λ c. IsSourceHeld cells e (source_of p d c)) cs

-- ---- what columns come to

-- the version's value is at hand; or its fault; or memory was wanted
abbrev pub IsServed : PlanView → Dataset → List Known → ℕ → ℕ → Result (Unit {0}) EntryStop → Type 0
IsServed p d cells e c (Ok u) = ((v : Value) × (version_in p d e c ≡ Gives v)) × IsSourceHeld cells e (source_of p d c)
IsServed p d cells e c (Err (EntryStop.Fault kind)) = version_in p d e c ≡ Faults kind
IsServed p d cells e c (Err EntryStop.Memory) = ⊤

-- the versions' values are at hand; or the fault of the first that has one; or memory was wanted
abbrev pub AreServed : PlanView → Dataset → List Known → ℕ → List ℕ → Result (Unit {0}) EntryStop → Type 0
AreServed p d cells e cs (Ok u) = ((vs : List Value) × (for_all (version_in p d e) cs ≡ Gives vs)) × AreHeld p d cells e cs
AreServed p d cells e cs (Err (EntryStop.Fault kind)) = for_all (version_in p d e) cs ≡ Faults kind
AreServed p d cells e cs (Err EntryStop.Memory) = ⊤
