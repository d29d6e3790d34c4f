-- Tables: their text, their values and how these are kept.
pub mod Generator
pub mod Integers
pub mod Kept
pub mod Pieces
pub mod TableText
pub mod Tables
