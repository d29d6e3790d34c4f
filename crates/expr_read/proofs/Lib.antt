pub mod Decided
pub mod Examples
pub mod TokenSteps
pub mod WholeReads
pub mod SpelledTree
pub mod Unique
