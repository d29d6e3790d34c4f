pub mod Entries
mod Examples
pub mod Faulted
pub mod Tabled
