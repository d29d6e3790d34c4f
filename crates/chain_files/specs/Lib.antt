pub mod Parts
pub mod Joining
pub mod Digests
pub mod Covering
pub mod Refusing
pub mod Laws
pub mod Reading
-- what other crates name of these
pub use Covering.{AreInOrder, AreNext, begin_from, break_from, end_file_of, first_file_of, first_uncovered, have_files, holds, in_order, IsFirstOther, IsFirstUncovered, not_behind, once_below, parts_with, placed}
pub use Digests.{digest_of, hash_of, hash_step, hex_digit, hex_digits}
pub use Joining.{are_loops, CanJoin, CanJoinAll, is_faulty, joined_loop, joined_loops, joined_part, joined_parts, up_to_fault}
pub use Laws.{AcceptedCanJoin, CoveredAreNext, GroupsAreFree, JoinedIsPart, JoinedKeepsShape, JoiningIsAssociative, LeastIsUncovered, OrderIsKept, OrderKeepsFiles, TextBreaksNowhere, TextIsOfOnePart}
pub use Parts.{Begins, BreaksAt, FitLoops, FitsFault, head_lines, is_digest, is_hex, IsAll, IsPart, IsPartText, IsRefusal, lines_text, loop_lines, part_limits, part_lines, part_text, PartView, view_of, widest, words_of}
unfoldable pub use Parts.{line_text}
pub use Reading.{bare, column_of_words, entries_of_word, fault_from, fault_of_words, files_of_words, four_of, is_cell_within, is_count_within, is_small, is_within, on_columns, on_within, part_line_behind, part_line_by, part_line_of, part_of, part_word_of, script_of_word, step, step_at, step_on, two_of, version_of_word}
pub use Refusing.{first_differing, first_misshapen, is_of}
pub use declared.chain_fault.ChainFault.{ChainFault}
pub use declared.part_loop.PartLoop.{PartLoop}
