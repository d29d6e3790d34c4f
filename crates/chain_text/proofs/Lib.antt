pub mod FaultLines
pub mod Fitting
pub mod Printing
