pub mod Due
pub mod Laws
pub mod Lines
pub mod Statuses
-- what other crates name of these
pub use Due.{cause_due, clusters_of, dataset_of, Files, graph_over, is_span, IsDue, IsDueToCommand, IsDueToShards, IsDueToTable, IsFile, IsMerged, IsMergeDue, IsPrinted, IsRunDue, IsSpanDue, max_files, name_at, ReadsShard, ShardDue, WithAccepted, WithShard, WithShards}
pub use Laws.{bytes_in, CoverOnce, HoldRuns, MergingIsDueTheTranscript, one_run, UntakenWordsAreDueUsage}
pub use Lines.{differs_line, file_refused_line, long_files_line, span_line, uncovered_line, usage_line}
pub use Statuses.{exit_status, IsFinal, printed_status, statuses}
pub use declared.status.ShardStatus.{ShardStatus}
