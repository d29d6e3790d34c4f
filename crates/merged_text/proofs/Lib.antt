pub mod Flows
pub mod LoopPasses
pub mod Printing
pub mod Rows
pub mod SamePasses
