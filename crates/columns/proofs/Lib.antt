pub mod BlockSteps
pub mod Clusters
pub mod Examples
pub mod InPieces
