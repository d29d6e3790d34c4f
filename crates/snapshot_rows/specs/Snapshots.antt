-- What a snapshot holds: the entries that pass a node's filters, each with the values of some columns there, or the first fault.
use Rattle.std.specs.Prelude.{ℕ, ◌+◌, List, [], ◌∷◌, Option, Some, None, Result, Ok, Err, filter_map, if◌then◌else◌}
use Rattle.rdf_values.specs.{EntryFault, Path, path, TableView, Under, Value}
use Rattle.rdf_model.specs.{◌>>=◌, column_value, Dataset, fault_in, for_all, Gives, Outcome, through}
use Rattle.graph_numbers.specs.{booked_statements}
use Rattle.snapshot_plan.specs.{plan_columns, PlanView}

-- ---- an entry

-- the cells of an entry that passed
abbrev pub kept_cells : {M : Type 0} → List Value → Outcome M (Option (List Value))
kept_cells vs = Gives (Some vs)

-- the cells that an outcome keeps
abbrev pub cells_in : {M : Type 0} → Outcome M (Option (List Value)) → Option (List Value)
cells_in (Gives cells) = cells
cells_in o = None

-- ---- faults

-- an entry, and what happened there
pub record SnapFault : Type 0 where
  pub entry : ℕ
  pub kind : EntryFault

-- the fault of that entry, or else what comes after it
abbrev pub fault_or : ℕ → Option EntryFault → Option SnapFault → Option SnapFault
fault_or e None after = after
fault_or e (Some kind) after = Some (record { entry = e; kind = kind })

-- ---- the entries of a table

-- for columns at the end of a path, under nominal or a variation
module _ (d : Dataset) (at : Path) (names : List (List ℕ)) (u : Under) where
  -- what the columns come to in a row, in their order
  abbrev pub columns_outcome : List Value → Outcome ⊥ (List Value)
  columns_outcome row = for_all (column_value d.fns d.columns row at u) names

  -- nothing where a filter stops the row, and otherwise its cells; the filters fault first, then the columns in their order
  abbrev pub row_outcome : List Value → Outcome ⊥ (Option (List Value))
  row_outcome row = through d.fns d.columns row at u >>= λ passed. if passed then columns_outcome row >>= kept_cells else Gives None

  abbrev pub kept_row : List Value → Option (List Value)
  kept_row row = cells_in (row_outcome row)

  -- the rows that are kept, in file order
  abbrev pub kept_rows : List (List Value) → List (List Value)
  kept_rows rows = filter_map kept_row rows

  -- the fault of the least entry that has one, where the first of the rows is entry e
  abbrev pub fault_from : ℕ → List (List Value) → Option SnapFault
  fault_from e [] = None
  fault_from e (row ∷ rows) = fault_or e (fault_in (row_outcome row)) (fault_from (e + 1) rows)

-- ---- a plan over a table

-- the statements from the plan's node up to the head
abbrev pub plan_path : PlanView → Path
plan_path p = path (booked_statements p.graph) p.node

-- the entries of the snapshot among some rows
abbrev pub snapshot_entries : PlanView → Dataset → List (List Value) → List (List Value)
snapshot_entries p d rows = kept_rows d (plan_path p) p.columns p.under rows

-- the snapshot's first fault among some rows, of which the first is entry e
abbrev pub snapshot_fault : PlanView → Dataset → ℕ → List (List Value) → Option SnapFault
snapshot_fault p d e rows = fault_from d (plan_path p) p.columns p.under e rows

abbrev pub unless_fault : TableView → Option SnapFault → Result TableView SnapFault
unless_fault t None = Ok t
unless_fault t (Some fault) = Err fault

-- the snapshot of a plan over a table, or its first fault
abbrev pub snapshot : PlanView → Dataset → Result TableView SnapFault
snapshot p d = unless_fault (record { columns = plan_columns p; rows = snapshot_entries p d d.rows }) (snapshot_fault p d 0 d.rows)
