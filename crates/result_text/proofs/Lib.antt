pub mod PassLines
pub mod Within
