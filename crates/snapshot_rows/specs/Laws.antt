-- Laws of snapshots. Each is the contract of a function of this crate, and so proved.
use Rattle.std.specs.Prelude.{◌≡◌, ◌⊎◌, ◌<◌, ◌≤◌, ℕ, Bool, true, false, List, [], length, filter, Some, Ok, Err, slice_get}
use Rattle.std.specs.List.{AllZip, list_all}
use Rattle.rdf_values.specs.{AnswerIn64Bits, EntryFault, fn_names, is_name, IsTable, StatementsHaveWords, table_of, TableView, Value}
use Rattle.rdf_model.specs.{column_in, Dataset, Faults, for_all, Gives, is_true, Outcome, through}
use Rattle.table_csv.specs.{csv_records}
use Rattle.graph_numbers.specs.{booked_statements, IsGraph}
use Rattle.snapshot_plan.specs.{IsPlan, plan_columns, PlanView}
use Rattle.snapshot_text.specs.{table_text}
use Rattle.snapshot_rows.specs.Snapshots.{SnapFault, plan_path, snapshot}

-- a plan of a booked graph, and a table with the columns and functions for which the graph was booked; numbers have 64 bits
pub record IsPlanOver (p : PlanView) (d : Dataset) : Type 0 where
  pub graph : IsGraph p.graph
  pub plan : IsPlan p
  pub columns : d.columns ≡ p.graph.header
  pub functions : fn_names d.fns ≡ p.graph.names
  pub table : IsTable (record { columns = d.columns; rows = d.rows })
  pub answers : AnswerIn64Bits d.fns
  pub words : StatementsHaveWords (booked_statements p.graph)

-- ---- a table

-- a snapshot is a table, with the plan's columns and at most as many entries as the table that it was made of
abbrev pub SnapshotIsATable : Type 0
SnapshotIsATable =
    (p : PlanView) (d : Dataset) (t : TableView) → IsPlanOver p d → snapshot p d ≡ Ok t → IsTable t × (t.columns ≡ plan_columns p) × (length t.rows ≤ length d.rows)

-- the text of a snapshot of named columns reads as that snapshot, without a mark
abbrev pub SnapshotReadsBack : Type 0
SnapshotReadsBack =
    (p : PlanView) (d : Dataset) (t : TableView) → IsPlanOver p d → list_all is_name p.columns ≡ true → snapshot p d ≡ Ok t
    → table_of (csv_records (table_text t)) ≡ Ok (record { table = t; marks = [] })

-- ---- its entries

-- whether a row passes the filters above the plan's node under nominal or the plan's variation
abbrev pub passed_in : PlanView → Dataset → List Value → Outcome ⊥ Bool
passed_in p d row = through d.fns d.columns row (plan_path p) p.under

-- what the plan's columns come to there, in their order
abbrev pub columns_in : PlanView → Dataset → List Value → Outcome ⊥ (List Value)
columns_in p d row = for_all (column_in d row (plan_path p) p.under) p.columns

-- the entries of a snapshot are those that pass, in file order, each with what the columns come to
abbrev pub SnapshotHoldsWhatPassed : Type 0
SnapshotHoldsWhatPassed =
    (p : PlanView) (d : Dataset) (t : TableView) → snapshot p d ≡ Ok t
    → AllZip (λ row cells. columns_in p d row ≡ Gives cells) (filter (λ row. is_true (passed_in p d row)) d.rows) t.rows

-- ---- its fault

-- a filter faults, or the row passes them and a column faults
abbrev pub FaultsWith : PlanView → Dataset → List Value → EntryFault → Type 0
FaultsWith p d row kind = (passed_in p d row ≡ Faults kind) ⊎ ((passed_in p d row ≡ Gives true) × (columns_in p d row ≡ Faults kind))

-- a filter stops the row, or it passes them and each column comes to a value
abbrev pub HasNoFault : PlanView → Dataset → List Value → Type 0
HasNoFault p d row = (passed_in p d row ≡ Gives false) ⊎ ((passed_in p d row ≡ Gives true) × ((cells : List Value) × (columns_in p d row ≡ Gives cells)))

-- its entry faults so, and none before it faults
pub record IsLeastFault (p : PlanView) (d : Dataset) (f : SnapFault) : Type 0 where
  pub row : List Value
  pub its_row : slice_get d.rows f.entry ≡ Some row
  pub its_fault : FaultsWith p d row f.kind
  pub earlier : (e : ℕ) (r : List Value) → e < f.entry → slice_get d.rows e ≡ Some r → HasNoFault p d r

-- a snapshot's fault is that of the least entry which has one, and where no entry has one there is a snapshot
abbrev pub SnapshotFaultIsLeast : Type 0
SnapshotFaultIsLeast =
    (p : PlanView) (d : Dataset)
    → ((f : SnapFault) → snapshot p d ≡ Err f → IsLeastFault p d f)
    × ((t : TableView) → snapshot p d ≡ Ok t → (e : ℕ) (row : List Value) → slice_get d.rows e ≡ Some row → HasNoFault p d row)
