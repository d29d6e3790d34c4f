pub mod Asked
-- what other crates name of these
pub use Asked.{flag, has_none, option, positional, asked_by, friend_from, friend_with, generated_by, input_from, input_with, is_set, missing_of, setting_of, within, AreWithinLimits, IsWithin, NumbersAreWithinLimits}
unfoldable pub use Asked.{is_taken, rdf_command, asked_in, asked_of, input_of, number_of}
pub use declared.command.Command.{Command}
pub use declared.command.Friend.{Friend}
pub use declared.command.Input.{Input}
