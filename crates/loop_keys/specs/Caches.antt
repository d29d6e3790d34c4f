-- What a contract sees of the evaluations that the passes of an entry share.
use Rattle.std.specs.Prelude.{◌≡◌, ⊤, ℕ, Bool, true, List, [], Option, Some, None, slice_get, All, Contains, unwrap_or, MatchOption}
use Rattle.rdf_values.specs.{ActionAt, Booking, Pass, ReportOn, Value}
use Rattle.rdf_model.specs.{Demand, filter_demands, pass_demands}
use Rattle.graph_numbers.specs.{FilterAt, graph_filters, graph_loops, graph_results, Pass as NumberedPass, ResultAt}
use Rattle.loop_keys.specs.Jobs.{JobView, job_graph, passes_in}
use Rattle.loop_keys.specs.Keys.{demand_key}
use Rattle.loop_keys.specs.Store.{ArePlain, IsPlainVersion}

-- ---- what is demanded

-- the set of keys has each that a pass demands of the entry
abbrev pub HasDemands : JobView → ℕ → ℕ → (ℕ → Bool) → Type 0
HasDemands j entry pass T =
    (row : List Value) (p : Pass) → slice_get j.dataset.rows entry ≡ Some row → slice_get (passes_in j) pass ≡ Some p
    → All (λ (d : Demand). T (demand_key (job_graph j) d) ≡ true) (pass_demands j.dataset.fns j.dataset.columns row p)

-- the set of keys has each that a named filter demands of the entry, with those above it
abbrev pub HasFilterDemands : JobView → ℕ → ℕ → (ℕ → Bool) → Type 0
HasFilterDemands j entry f T =
    (row : List Value) (x : FilterAt) → slice_get j.dataset.rows entry ≡ Some row → slice_get (graph_filters (job_graph j)) f ≡ Some x
    → All (λ (d : Demand). T (demand_key (job_graph j) d) ≡ true) (filter_demands j.dataset.fns j.dataset.columns row x.at None)

-- the pass of that number, by numbers
abbrev pub numbered_in : JobView → ℕ → Option NumberedPass
numbered_in j pass = slice_get (unwrap_or (slice_get (graph_loops (job_graph j)) j.number) []) pass

-- ---- loops

-- the pass of that number is of an action
abbrev pub IsActionBooking : Booking → Type 0
IsActionBooking (ActionAt k at) = ⊤
IsActionBooking (ReportOn filters) = ⊥

abbrev pub IsActionPass : JobView → ℕ → Type 0
IsActionPass j pass = MatchOption (slice_get (passes_in j) pass) ⊥ (λ p. IsActionBooking p.result.booking)

-- a loop of which no site and no column in use is a vector: there is a set of sites that has those of the passes' filters and of
-- what they read, and with each site those that it reads
pub record IsPlainLoop (j : JobView) : Type 0 where
  pub used : ℕ → Bool
  pub sites : ArePlain j used
  pub filters : (n : ℕ) (p : NumberedPass) (r : ResultAt) → numbered_in j n ≡ Some p → slice_get (graph_results (job_graph j)) p.result ≡ Some r → All (λ s. used s ≡ true) r.filters
  pub inputs : (n : ℕ) (p : NumberedPass) (r : ResultAt) → numbered_in j n ≡ Some p → slice_get (graph_results (job_graph j)) p.result ≡ Some r → All (IsPlainVersion (job_graph j) used) r.inputs
  pub covers : (n f : ℕ) (p : NumberedPass) (r : ResultAt) (x : FilterAt) → numbered_in j n ≡ Some p → slice_get (graph_results (job_graph j)) p.result ≡ Some r → Contains r.covers f
      → slice_get (graph_filters (job_graph j)) f ≡ Some x → All (λ s. used s ≡ true) x.sites

-- a report of the loop covers the filter of that number
pub record IsCovered (j : JobView) (f : ℕ) : Type 0 where
  pub pass : ℕ
  pub numbered : NumberedPass
  pub result : ResultAt
  pub its_pass : numbered_in j pass ≡ Some numbered
  pub its_result : slice_get (graph_results (job_graph j)) numbered.result ≡ Some result
  pub covers : Contains result.covers f
