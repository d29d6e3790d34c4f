pub mod Due
pub mod Laws
pub mod Lines
pub mod Statuses
-- what other crates name of these
pub use Due.{chain_of, ChainDue, Files, graph_over, IsDue, IsDueToCommand, IsEachPrinted, IsJoinDue, IsJoined, IsMapDue, IsPrintDue, IsRunDue, IsRunOver, IsText, max_part, max_parts, name_at, printed_over, ReadsPart, WithAccepted, WithFitting, WithParts, WithTable, WithTableFile, WithTables}
pub use Laws.{UntakenWordsAreDueUsage}
pub use Lines.{differs_line, file_refused_line, long_files_line, long_part_line, table_line, uncovered_line, usage_line}
pub use Statuses.{exit_status, IsFinal, printed_status, statuses}
pub use declared.status.ChainStatus.{ChainStatus}
