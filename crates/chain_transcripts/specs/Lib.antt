pub mod Laws
-- what other crates name of these
pub use Laws.{ChainPrintsTheTranscript, DifferInPlace, OneTablePrintsTheTranscript, PartsPrintTheTranscript, PrintAs}
