pub mod Following
pub mod LinesOfBoth
pub mod Shards
pub mod SpanFaults
pub mod WholeRuns
