pub mod Laws
-- what other crates name of these
pub use Laws.{IsUnwatched, MergedRunPrintsNoPartials, MergedRunPrintsTheTranscript, ShardsMergeToTheTranscript}
