pub mod Due
pub mod Reading
-- what other crates name of these
pub use Due.{AreTurnedTo, Files, IsLast, WritesDue, WritesDuePart, WritesPart, WritesReadFailed, due_of, FileStatuses, max_script, max_table, ReadsScript, WithFile, WithScript, WithScriptFile, WithTable, WithTableFile}
pub use Reading.{fetched_by, IsFetched, IsFetchedIn, missed_by, Tells, HoldsTheScript, HoldsTheTable, IsSpelt, IsTaken, marked_table, ReadsColumnsFile, ReadsColumnsText, ReadsScriptFile, ReadsScriptText, ReadsTableFile, RefusesTableFile, status_for}
pub use declared.refuse.ReadFile.{ReadFile}
