pub mod Bounds
pub mod Examples
pub mod Parts
pub mod Taken
