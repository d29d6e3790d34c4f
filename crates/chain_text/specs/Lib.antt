pub mod ChainPrints
pub mod Laws
-- what other crates name of these
pub use ChainPrints.{access_printed, chain_fault_line, chain_text, FitGraph, loop_printed, prints_text}
pub use Laws.{ShapedLoopsFit}
