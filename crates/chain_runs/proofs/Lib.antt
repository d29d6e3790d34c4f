pub mod Faults
pub mod Groups
pub mod Joining
pub mod Parts
pub mod Shapes
