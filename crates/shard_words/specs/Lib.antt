pub mod Asked
-- what other crates name of these
pub use Asked.{asked_for, asked_of, merge_of, merge_with, run_of, run_with}
pub use declared.command.Merging.{Merging}
pub use declared.command.ShardCommand.{ShardCommand}
pub use declared.command.SpanRun.{SpanRun}
