pub mod Kinds
pub mod Laws
-- what other crates name of these
pub use Kinds.{booking_kind, first_kind, pass_kind}
pub use Laws.{AreReadOf, IsChecked, OnlyCoverIsRefused, runs_over, RunsAreShards, RunsHaveShapes, RunsMergeToOneRun, script_shapes, WrittenRunsMergeToOneRun, WrittenRunsReadBack}
