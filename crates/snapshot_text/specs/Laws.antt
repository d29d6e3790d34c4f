-- Laws of a table's text. Each is the contract of a function of this crate, and so proved.
use Rattle.std.specs.Prelude.{◌≡◌, List, [], ◌++◌, Ok, true}
use Rattle.std.specs.List.{list_all}
use Rattle.rdf_values.specs.{Column, is_name, IsTable, table_of, TableView, Value}
use Rattle.table_csv.specs.{csv_records}
use Rattle.snapshot_text.specs.TableTexts.{entries_text, table_text}

-- each column is called by a name
abbrev pub AreNamed : List Column → Type 0
AreNamed columns = list_all (λ (c : Column). is_name c.name) columns ≡ true

-- the text of a table reads as that table, without a mark
abbrev pub TextReadsBack : Type 0
TextReadsBack = (t : TableView) → IsTable t → AreNamed t.columns → table_of (csv_records (table_text t)) ≡ Ok (record { table = t; marks = [] })

-- texts of entries, put together in order, are the text of the entries in that order
abbrev pub PartsJoin : Type 0
PartsJoin = (first second : List (List Value)) → entries_text (first ++ second) ≡ entries_text first ++ entries_text second
