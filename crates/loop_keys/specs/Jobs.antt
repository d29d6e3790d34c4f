-- What a contract sees of an event loop's work.
use Rattle.std.specs.Prelude.{◌≡◌, ◌<◌, ℕ, List, [], length, Option, Some, None, slice_get, unwrap_or}
use Rattle.rdf_values.specs.{fn_names, history, IsTable, Pass, Script, Value}
use Rattle.rdf_model.specs.{Dataset, Entry, entry_outcome, Gives, loop_passes, loop_results, Outcome, Skip}
use Rattle.columns.specs.Views.{CutsView}
use Rattle.entry_fns.specs.{functions_in}
use Rattle.graph_numbers.specs.{graph_loops, GraphView, IsGraph}
use Rattle.loop_keys.specs.declared.job.Job.{Job}

-- a script, the number of a loop, the functions and the table, and the table's cuts
pub record JobView : Type 0 where
  pub script : Script
  pub number : ℕ
  pub dataset : Dataset
  pub cuts : CutsView

-- the parts of a job
abbrev pub job_of : {V : Type 0} {D : V → Type 0} {g : _} → Job V D g → JobView
job_of j = record {
  script = j.graph.now.script;
  number = j.loop_index;
  dataset = record { fns = functions_in j.functions.now; columns = j.columns.now.table.columns; rows = j.columns.now.table.rows };
  cuts = j.columns.now.cuts;
}

-- the graph that is booked for the script over the table's columns, with the functions' names
abbrev pub job_graph : JobView → GraphView
job_graph j = record { script = j.script; header = j.dataset.columns; names = fn_names j.dataset.fns }

-- the graph is booked and has the loop, and the cuts are of the table
pub record IsJob (j : JobView) : Type 0 where
  pub graph : IsGraph (job_graph j)
  pub table : IsTable (record { columns = j.dataset.columns; rows = j.dataset.rows })
  pub cuts : j.cuts.entries ≡ length j.dataset.rows
  pub loop : j.number < length (graph_loops (job_graph j))

-- the parts fit: the graph was booked with the table's columns as its header and the functions' names
pub record Fits {V : Type 0} {D : V → Type 0} {g : _} (j : Job V D g) : Type 0 where
  pub graph : j.graph.now ≡ job_graph (job_of j)
  pub job : IsJob (job_of j)

-- the passes of the loop, in order
abbrev pub passes_in : JobView → List Pass
passes_in j = loop_passes (history j.script) (unwrap_or (slice_get (loop_results (history j.script)) j.number) [])

-- what a row comes to in a pass by itself
abbrev pub outcome_of : JobView → Option (List Value) → Option Pass → Outcome ⊥ Entry
outcome_of j None p = Gives Skip
outcome_of j (Some row) None = Gives Skip
outcome_of j (Some row) (Some p) = entry_outcome j.dataset.fns j.dataset.columns row p

-- what an entry comes to in the pass of that number by itself
abbrev pub pass_outcome : JobView → ℕ → ℕ → Outcome ⊥ Entry
pass_outcome j entry pass = outcome_of j (slice_get j.dataset.rows entry) (slice_get (passes_in j) pass)
