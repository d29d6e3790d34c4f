pub mod Agreement
pub mod Composed
