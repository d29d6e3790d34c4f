-- The text of a table, as a snapshot writes it: a header, and a record for each entry.
use Rattle.std.specs.Prelude.{ℕ, List, [], ◌∷◌, ◌++◌, map, flat_map, codes}
use Rattle.std.specs.Fmt.{signed_decimal}
use Rattle.std.specs.List.{join_with_byte}
use Rattle.rdf_values.specs.{ColType, Column, line, TableView, Value}

-- ---- the header

-- how a header names a kind; no table has a column of truth values
abbrev pub kind_word : ColType → List ℕ
kind_word ColType.Int = codes "int"
kind_word ColType.Bool = codes "bool"
kind_word ColType.Vect = codes "vec"

-- a column's name, a colon, and its kind
abbrev pub column_field : Column → List ℕ
column_field c = c.name ++ 58 ∷ kind_word c.kind

-- the columns with commas between them
abbrev pub header_text : List Column → List ℕ
header_text columns = line (join_with_byte 44 (map column_field columns))

-- ---- the entries

-- a number, or the numbers of a vector with `;` between them; no table holds truth values
abbrev pub cell_field : Value → List ℕ
cell_field (Value.Int z) = signed_decimal z
cell_field (Value.Bool b) = []
cell_field (Value.Vect zs) = join_with_byte 59 (map signed_decimal zs)

-- the cell of a table of one column: an empty vector is two double quotes, since an empty line is no record
abbrev pub lone_field : Value → List ℕ
lone_field (Value.Int z) = signed_decimal z
lone_field (Value.Bool b) = []
lone_field (Value.Vect []) = codes "\"\""
lone_field (Value.Vect (z ∷ zs)) = join_with_byte 59 (map signed_decimal (z ∷ zs))

-- the cells of an entry with commas between them
abbrev pub record_text : List Value → List ℕ
record_text [] = []
record_text (cell ∷ []) = lone_field cell
record_text (cell ∷ next ∷ cells) = join_with_byte 44 (map cell_field (cell ∷ next ∷ cells))

abbrev pub entry_text : List Value → List ℕ
entry_text cells = line (record_text cells)

-- ---- the table

-- the entries' records, one behind the other
abbrev pub entries_text : List (List Value) → List ℕ
entries_text rows = flat_map entry_text rows

abbrev pub table_text : TableView → List ℕ
table_text t = header_text t.columns ++ entries_text t.rows
