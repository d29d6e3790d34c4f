-- What trying a pass of an entry does.
-- ---- the cache
use Rattle.std.specs.Prelude.{◌≡◌, ℕ, Bool, List, [], Option, None, Some, length, map, slice_get, take, unwrap_or, nat_eq}
use Rattle.std.specs.List.{list_any, AllByRecursion}
use Rattle.rdf_values.specs.{EntryFault, history, named_before, Path, ReportOn, ActionAt, ActionKind, columns_of, Value}
use Rattle.rdf_model.specs.{fault_in, is_covered, kinds_in, FitsFeed, for_all, Gives}
use Rattle.graph_numbers.specs.{graph_loops, graph_results, Pass as NumberedPass, ResultAt}
use Rattle.loop_keys.specs.Caches.{HasDemands, numbered_in}
use Rattle.loop_keys.specs.Jobs.{JobView, job_graph, pass_outcome, passes_in}
use Rattle.loop_keys.specs.Store.{IsReadable, version_in}

-- the set of keys has each that a pass of the loop demands of the entry
abbrev pub HasAllDemands : JobView → ℕ → (ℕ → Bool) → Type 0
HasAllDemands j entry T = (pass : ℕ) → HasDemands j entry pass T

-- the fault of an entry in a pass
abbrev pub pass_fault : JobView → ℕ → ℕ → Option EntryFault
pass_fault j entry pass = fault_in (pass_outcome j entry pass)

-- ---- reports

-- for each named filter whether a report of the loop covers it
abbrev pub covered_in : JobView → List Bool
covered_in j = map (is_covered (passes_in j)) (named_before (history j.script))

-- the filters that a result covers, by their numbers
abbrev pub covers_of : Option ResultAt → List ℕ
covers_of None = []
covers_of (Some r) = r.covers

-- the result of a pass covers the filter of that number
abbrev pub is_covering : List ResultAt → ℕ → NumberedPass → Bool
is_covering results f p = list_any (nat_eq f) (covers_of (slice_get results p.result))

-- the passes of the loop by numbers
abbrev pub numbered_passes : JobView → List NumberedPass
numbered_passes j = unwrap_or (slice_get (graph_loops (job_graph j)) j.number) []

-- ---- the tally

-- how many action passes there are before a pass
abbrev pub actions_before : JobView → ℕ → ℕ
actions_before j pass = length (kinds_in (take pass (passes_in j)))

-- the pass is that of a report, whose result has that number
pub record IsReportPass (j : JobView) (pass own : ℕ) : Type 0 where
  pub numbered : NumberedPass
  pub its_pass : numbered_in j pass ≡ Some numbered
  pub its_result : numbered.result ≡ own
  pub result : ResultAt
  pub there_is : slice_get (graph_results (job_graph j)) own ≡ Some result
  pub filters : List Path
  pub report : result.booked.booking ≡ ReportOn filters

-- ---- What trying a pass does over what is held.
-- ---- inputs

-- each version can be read
abbrev pub AreReadable : JobView → Option ℕ → List ℕ → Type 0
AreReadable j u cs = AllByRecursion (IsReadable j u) cs

-- ---- actions

-- the action of the result of that number
pub record IsActionAt (j : JobView) (n : ℕ) (k : ActionKind) (sites versions : List ℕ) : Type 0 where
  pub result : ResultAt
  pub there_is : slice_get (graph_results (job_graph j)) n ≡ Some result
  pub at : Path
  pub kind : result.booked.booking ≡ ActionAt k at
  pub filters : result.filters ≡ sites
  pub inputs : result.inputs ≡ versions

-- what is read for an action can be read, one version for each of its columns, and comes to values that it takes
pub record CanAct (j : JobView) (entry : ℕ) (u : Option ℕ) (k : ActionKind) (versions : List ℕ) : Type 0 where
  pub inputs : AreReadable j u versions
  pub count : length versions ≡ length (columns_of k)
  pub fits : (vs : List Value) → for_all (version_in {M = ⊥} j entry u) versions ≡ Gives vs → FitsFeed k vs
