pub mod Runs
pub mod Texts
-- what other crates name of these
pub use Runs.{as_fault, data_with, facts_of, IsMade, spans_of}
pub use Texts.{AreRecords, IsRun, IsTogether, most_bytes}
