-- Expressions: their text, their kinds and their numbers.
pub mod Canonical
pub mod ExprTree
pub mod Expressions
pub mod Functions
pub mod Grammar
pub mod Kinds
pub mod NumExprTree
pub mod Numbered
pub mod Scans
pub mod Tokens
pub mod TreeCode
