pub mod Outside
pub mod Memory
pub mod MemorySink
-- what other crates name of these
pub use Outside.{AnswersMiss, AnswersOpen, AnswersRead, AnswersWrite, Appends, AppendsPart, Finds, HasCause, ReadsFrom, Rose, Takes, TurnHasCause, in_a_row, IsTooLarge, Joins, Reads, ReadsParts, TakesOneMore}
pub use Memory.{Counts, is_listed, bytes_at, file_of, has_name, left_at, moved, shelf_made}
pub use declared.shelf.TurnStop.{TurnStop}
pub use declared.whole.ReadRefusal.{ReadRefusal}
