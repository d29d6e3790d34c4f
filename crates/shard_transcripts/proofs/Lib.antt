pub mod NamedResults
pub mod WholeText
