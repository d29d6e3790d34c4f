-- Scripts: their lines, what these book, and whether they are accepted.
pub mod Bookable
pub mod Bookings
pub mod Depends
pub mod LineForms
pub mod LineTokens
pub mod Names
pub mod Nodes
pub mod Scripts
pub mod Statements
pub mod Verdict
pub mod Words
