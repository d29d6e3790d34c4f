pub mod Due
pub mod Laws
pub mod Lines
pub mod Statuses
-- what other crates name of these
pub use Due.{cause_over, dataset_of, graph_over, IsDue, IsDueOver, IsDueToFiles, IsRunDue, IsTextDue, plan_over, SnapshotDue, WithPlan}
pub use Laws.{ReadsBack, SnapshotReadsBack, UntakenWordsAreDueUsage}
pub use Lines.{cause_line, fault_line, long_line, under_text, usage_line}
pub use Statuses.{exit_status, IsFinal, status_of, statuses}
pub use declared.status.SnapshotStatus.{SnapshotStatus}
