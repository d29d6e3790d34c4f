pub mod Joined
pub mod FriendEntries
pub mod JoinRefused
pub mod Laws
pub mod Matches
-- what other crates name of these
pub use JoinRefused.{elements, elements_of, first_repeat, first_taken, has_column, is_int, is_key, is_taken, key_place, most_columns, most_elements, repeat_from, row_elements, unless_above, unless_at}
unfoldable pub use JoinRefused.{join_columns, join_entries, join_of}
pub use Joined.{first_or, friend_rows, gained, joined_row, joined_table, KeyedTable, keys_of, missing_row, missing_value, number_at, number_of}
pub use Laws.{EachEntryStays, KeyHasOneRow}
pub use Matches.{AreBelow, AreEntries, AreInts, AreSmall, column_elements, entry_of, ints_in, IsSmall, keyed_in, length_for, matched_cells, matched_elements, number_for, table_in, vector_for}
pub use declared.cause.JoinCause.{JoinCause}
