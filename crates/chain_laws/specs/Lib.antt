pub mod Laws
-- what other crates name of these
pub use Laws.{HoldTables, HoldTexts, IsJoinOf, IsMapped, IsPartOf, PrintIsDueTheTranscript, RunIsDueTheTranscript, tables_of}
