pub mod Ended
pub mod Least
pub mod Placing
