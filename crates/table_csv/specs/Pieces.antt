-- Pieces of a table: a header line, and some of the lines behind it.
use Rattle.std.specs.Prelude.{◌≡◌, ◌⊎◌, ◌||◌, ℕ, Bool, List, [], ◌∷◌, ◌++◌, nat_eq, ◌<◌, false, All, Ok, length, ◌+◌, map}
use Rattle.std.specs.List.{list_any}
use Rattle.rdf_values.specs.{table_of, MarkedTable}
use Rattle.table_csv.specs.Csv.{csv_records}
use Rattle.table_csv.specs.declared.pieces.MarkedPieces.{MarkedPieces}
use Rattle.columns.specs.{table_joined}
use Rattle.columns.specs.Views.{ColumnsView}

-- ---- tables that are cut behind the ends of lines

abbrev pub is_line_end : ℕ → Bool
is_line_end b = nat_eq b 10

abbrev pub is_quote : ℕ → Bool
is_quote b = nat_eq b 34

-- a double quote, or the byte with which a byte order mark begins
abbrev pub is_special : ℕ → Bool
is_special b = nat_eq b 34 || nat_eq b 239

-- the bytes end where a line does
abbrev pub EndsLine : List ℕ → Type 0
EndsLine bytes = (front : List ℕ) × (bytes ≡ front ++ 10 ∷ [])

-- the first bytes end where a line does, or nothing is left
abbrev pub IsCut : List ℕ → List ℕ → Type 0
IsCut lines rest = EndsLine lines ⊎ (rest ≡ [])

-- the bytes hold one record
abbrev pub IsHead : List ℕ → Type 0
IsHead bytes = (header : List (List ℕ)) × (csv_records bytes ≡ header ∷ [])

-- the table is that of the header line and these lines, which need no look at the others
pub record IsPiece (head lines : List ℕ) (m : MarkedPieces) : Type 0 where
  pub plain : list_any is_special lines ≡ false
  pub read : table_of (csv_records head ++ csv_records lines) ≡ Ok (record { table = m.table; marks = m.marks })
  pub within : All (λ e. e < length m.table.rows) m.marks

-- ---- tables with their marks: parts of one, one behind the other, and the columns of one over its clusters

-- marks of entries that stand behind n others
abbrev pub marks_behind : ℕ → List ℕ → List ℕ
marks_behind n marks = map (λ m. n + m) marks

-- the entries of the second behind those of the first, and its marks with them
abbrev pub marked_joined : MarkedTable → MarkedTable → MarkedTable
marked_joined a b = record { table = table_joined a.table b.table; marks = a.marks ++ marks_behind (length a.table.rows) b.marks }

-- the columns of a table, cut at its marks into clusters of at most that size
abbrev pub columns_over : MarkedTable → ℕ → ColumnsView
columns_over t size = record { table = t.table; cuts = record { entries = length t.table.rows; size = size; marks = t.marks } }

-- the table of columns, with its marks
abbrev pub marked_in : ColumnsView → MarkedTable
marked_in columns = record { table = columns.table; marks = columns.cuts.marks }
