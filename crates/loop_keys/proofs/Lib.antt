pub mod ActionLaws
pub mod PassNumbers
pub mod KeyLaws
pub mod EvaluateLaws
