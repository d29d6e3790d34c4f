-- What results are fed, and the lines of refusals.
pub mod Fold
pub mod RefusalLines
pub mod Spread
