pub mod Answered
pub mod FirstBads
pub mod FirstLines
pub mod Walked
pub mod TokenSteps
