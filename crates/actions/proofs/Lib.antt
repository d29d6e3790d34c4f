pub mod Batching
pub mod States
pub mod Folds
