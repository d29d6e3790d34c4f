-- What a contract sees of a snapshot's work.
use Rattle.std.specs.Prelude.{◌≡◌}
use Rattle.rdf_values.specs.{IsTable}
use Rattle.rdf_model.specs.{Dataset}
use Rattle.entry_fns.specs.{functions_in}
use Rattle.graph_numbers.specs.{IsGraph}
use Rattle.snapshot_plan.specs.{IsPlan, PlanView}
use Rattle.snapshot_entries.specs.Values.{plan_graph}
use Rattle.snapshot_entries.specs.declared.job.SnapJob.{SnapJob}

-- the table of a job, with the caller's functions
abbrev pub data_of : {V : Type 0} {D : V → Type 0} {g : _} → SnapJob V D g → Dataset
data_of j = record { fns = functions_in j.functions.now; columns = j.columns.now.table.columns; rows = j.columns.now.table.rows }

abbrev pub plan_of : {V : Type 0} {D : V → Type 0} {g : _} → SnapJob V D g → PlanView
plan_of j = j.plan.now

-- the plan's graph was booked over the table's columns, with the functions' names
pub record IsWork (p : PlanView) (d : Dataset) : Type 0 where
  pub graph : p.graph ≡ plan_graph p d
  pub booked : IsGraph (plan_graph p d)
  pub planned : IsPlan p
  pub table : IsTable (record { columns = d.columns; rows = d.rows })
