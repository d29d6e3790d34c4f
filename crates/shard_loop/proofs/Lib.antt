pub mod JobPasses
pub mod Looping
pub mod PassLines
pub mod SpanRuns
pub mod Taking
