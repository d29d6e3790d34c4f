pub mod GraphShapes
pub mod Laws
-- what other crates name of these
pub use GraphShapes.{booking_kind, graph_shapes, input_kind, pass_kind, version_kind}
pub use Laws.{JoinedLoopsFit}
