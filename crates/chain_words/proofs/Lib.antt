pub mod Bounds
pub mod Examples
mod Words
