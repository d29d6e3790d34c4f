pub mod Shards
pub mod Laws
pub mod LoopsAt
pub mod Merging
pub mod Reading
pub mod Endless
-- what other crates name of these
pub use Laws.{TextBreaksNowhere, TextIsOfOneShard}
pub use LoopsAt.{fault_of, is_faulty, loop_at}
pub use Merging.{all_lines, are_loops, fault_or_lines, first_loop, first_misshapen, first_other, first_uncovered, in_order, joined_loop, joined_loops, least_fault, lines_in, not_behind, or_earlier, other_loops, placed, same_column, same_columns, same_head, same_kind, spans_with, unless_at, up_to_fault}
unfoldable pub use Merging.{merge_of, shards_joined}
pub use Reading.{bare, column_of_words, fault_from, fault_kind_of, fault_of_number, fault_of_words, file_line_behind, file_line_by, file_line_of, file_word_of, name_of, on_between, on_columns, on_within, shard_of, span_of_words, step, step_at, step_on, stored_kind_of, table_of_words, three_of, two_of, version_of}
pub use Shards.{Begins, BreaksAt, fault_number, file_lines, FitLoops, FitsFault, IsAll, IsRefusal, IsShard, IsShardText, kind_word, lines_text, loop_lines, shard_limits, shard_text, ShardView, words_of}
unfoldable pub use Shards.{line_text}
pub use declared.merge_cause.MergeCause.{MergeCause}
pub use declared.shard_loop.ShardLoop.{ShardLoop}
