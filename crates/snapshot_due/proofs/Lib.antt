pub mod ReadBack
pub mod Spelt
