-- The records of CSV bytes, those that a reader has left, and the entries behind a header.
use Rattle.std.specs.Prelude.{◌≡◌, ◌<◌, ℕ, Bool, true, false, length, List, [], ◌∷◌, Some, Ok, Result}
use Rattle.std.specs.Borrow.{Bor}
use Rattle.csv.specs.Machine.{ends_at_end}
use Rattle.csv.specs.Reading.{Ready, default_config, is_flexible, reader_config, reader_state, reader_trim, records, records_from, source_of, strip_bom}
use Rattle.csv.specs.declared.reader.Reader.{Reader}
use Rattle.rdf_values.specs.{Header, header_from, IsHeader, MarkedTable, on_ok, rows_from, table_with, TableCause, Cells, ColType, MarkedRow, pushed, row_pushed, Value}
use Rattle.csv.specs.declared.reader.Trim.TheVariants as trim

-- the records that `csv` gives for the bytes, by its default comma and double quote; a byte order mark at their start is skipped
unfoldable pub csv_records : List ℕ → List (List (List ℕ))
csv_records bytes = records default_config (strip_bom bytes)

-- the reader still gives these records
pub record Leaves (r : Reader (Bor (List ℕ))) (left : List (List (List ℕ))) : Type 0 where
  pub trims : reader_trim r ≡ trim.None
  pub ready : Ready r
  pub flexible : is_flexible r ≡ true
  pub config : reader_config r ≡ default_config
  pub bytes : List ℕ
  pub source : source_of (λ s. Some s.now) r ≡ Some bytes
  pub fuel : ℕ
  pub enough : length bytes < fuel
  pub between : ends_at_end (reader_state r) ≡ false
  pub rest : left ≡ records_from default_config fuel (reader_state r) bytes

-- a read took the first of the records that were left, or found none
abbrev pub Took : Bool → List (List (List ℕ)) → List (List ℕ) → Reader (Bor (List ℕ)) → Type 0
Took true left fields after = (rest : List (List (List ℕ))) × (left ≡ fields ∷ rest) × Leaves after rest × (0 < length fields)
Took false left fields after = left ≡ []

-- the table of a header's columns that the entries spell, or the first refusal
abbrev pub entries_of : Header → List (List (List ℕ)) → Result MarkedTable TableCause
entries_of h entries = on_ok (rows_from 0 h entries) (table_with h.columns)

-- the first of the records is this header, and the reader still gives the others
pub record IsHeaded (records : List (List (List ℕ))) (h : Header) (after : Reader (Bor (List ℕ))) : Type 0 where
  pub fields : List (List ℕ)
  pub left : List (List (List ℕ))
  pub first : records ≡ fields ∷ left
  pub spells : header_from 0 [] fields ≡ Ok h
  pub leaves : Leaves after left
  pub header : IsHeader h.columns

-- ---- columns that have one more value each

-- the type of a column whose values are kept
abbrev pub kind_of : Cells → ColType
kind_of (Cells.Ints ns) = ColType.Int
kind_of (Cells.Vects vs) = ColType.Vect

-- the value that a cell spells stands behind the others of its column
pub record IsCellPushed (cell : Result Value TableCause) (old new : Cells) : Type 0 where
  pub value : Value
  pub spelt : cell ≡ Ok value
  pub added : new ≡ pushed old value

-- the values that cells spell stand behind the others of their columns
pub record AreCellsPushed (cells : Result (List Value) TableCause) (old new : List Cells) : Type 0 where
  pub row : List Value
  pub spelt : cells ≡ Ok row
  pub added : new ≡ row_pushed old row

-- the values of the row that an entry spells stand behind the others of their columns
pub record IsRowPushed (entry : Result MarkedRow TableCause) (begins : Bool) (old new : List Cells) : Type 0 where
  pub row : List Value
  pub spelt : entry ≡ Ok (record { row = row; marked = begins })
  pub added : new ≡ row_pushed old row
