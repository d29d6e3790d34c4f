pub mod Runs
mod Ending
mod OtherLengths
pub mod Cutting
mod Growing
pub mod Numerals
pub mod ReadBack
pub mod Plain
