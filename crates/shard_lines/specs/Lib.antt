pub mod Lines
pub mod Shapes
pub mod Joining
pub mod Spaced
pub mod Reading
pub mod Laws
-- what other crates name of these
pub use Joining.{added_cells, added_counts, better_of, cells_of, count_of, counts_of, extreme_of, joined_line, joined_lines, number_of, sum_of, taken_of}
pub use Laws.{LinesReadBack, ReadLinesFit}
pub use Lines.{are_alike, AreLimits, cell_words, count_words, EachFits, extreme_word, FitLines, FitsCell, FitsCount, FitsExtreme, FitsLine, FitsScalar, FitsTake, is_number, is_truth, IsShort, IsSmall, joined_words, line_words, scalar_word}
pub use Reading.{both_of, cell_of, counts_of_words, each_of, extreme_of_word, is_short, kind_of_word, line_behind, line_of_kind, line_of_words, list_of, lone, numbered, one_sort, onto, pairs_of, scalar_of, sum_of_word, words_behind, words_in}
pub use Shapes.{action_shape, are_cells, booking_shape, has_shape, have_shapes, is_report, is_take_from, is_taken_from}
pub use Spaced.{spaced}
pub use declared.limits.LineLimits.{LineLimits}
pub use declared.pass_shape.PassShape.{PassShape}
pub use declared.shard_line.ShardLine.{ShardLine}
