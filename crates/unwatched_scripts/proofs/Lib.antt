pub mod Dropping
pub mod Printing
