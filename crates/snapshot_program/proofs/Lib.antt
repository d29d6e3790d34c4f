pub mod Answering
pub mod Plans
pub mod Staging
pub mod Writing
