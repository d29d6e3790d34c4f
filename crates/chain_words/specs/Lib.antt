pub mod Asked
pub mod Limits
pub mod Reading
-- what other crates name of these
pub use Asked.{asked_of, command_by, command_of, has_options, is_over, join_of, map_of, map_with, print_of, print_with, run_of, settings_of}
pub use Limits.{AreSettings, AreWithinLimits}
pub use Reading.{after, any_word, awaiting, begins, cluster_by, is_plain, joined_word, named, no_words, number_in, once, option_word, slots_by, with_cluster, with_slots, word_read, words_read}
pub use declared.command.ChainCommand.{ChainCommand}
