pub mod Entries
pub mod Jobs
pub mod Values
pub mod Wanted
-- what other crates name of these
pub use Entries.{IsEntryAnswer, IsRange, IsRowAnswer, IsSkimAnswer, IsSkimOf, kept_text, outcome_at, rows_of, stop_from}
pub use Jobs.{data_of, IsWork, plan_of}
pub use Values.{AreHeld, AreKnown, AreServed, element_of, Grows, IsAnswer, IsColumn, IsHeld, IsReadable, IsServed, IsSourceHeld, IsStoredOutcome, IsStoredValue, outcome_of, passes_by, plan_graph, row_in, site_behind, site_in, site_total, source_of, version_in}
pub use Wanted.{AreVersions, IsWanted}
pub use declared.stop.SkimStop.{SkimStop}
