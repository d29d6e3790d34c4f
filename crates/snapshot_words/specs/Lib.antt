pub mod Asked
pub mod Limits
-- what other crates name of these
pub use Asked.{asked_by, command_of, files_of, if_names, is_comma, shown_by, shown_of, varied_of}
unfoldable pub use Asked.{asked_in, asked_of, is_taken, names_of, snapshot_command, under_in}
pub use Limits.{CommandsArePlans, IsAsked}
pub use declared.command.SnapCommand.{SnapCommand}
