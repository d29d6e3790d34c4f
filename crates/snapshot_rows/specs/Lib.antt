pub mod Laws
pub mod Snapshots
-- what other crates name of these
pub use Laws.{columns_in, FaultsWith, HasNoFault, IsLeastFault, IsPlanOver, passed_in, SnapshotFaultIsLeast, SnapshotHoldsWhatPassed, SnapshotIsATable, SnapshotReadsBack}
pub use Snapshots.{cells_in, columns_outcome, fault_from, fault_or, kept_cells, kept_row, kept_rows, plan_path, row_outcome, SnapFault, snapshot, snapshot_entries, snapshot_fault, unless_fault}
