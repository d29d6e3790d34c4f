pub mod Laws
pub mod TableTexts
-- what other crates name of these
pub use Laws.{AreNamed, PartsJoin, TextReadsBack}
pub use TableTexts.{cell_field, column_field, entries_text, entry_text, header_text, kind_word, lone_field, record_text, table_text}
