pub mod Filling
pub mod FillingPairs
