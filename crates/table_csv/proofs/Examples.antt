-- What some bytes spell.
use Prim.Native.String.{String}
use Rattle.lemmas.proofs.{ℕ, List, [], ◌∷◌, ◌++◌, Ok, Err, refl, codes, pos, negsuc, Result}
use Rattle.csv.proofs.OnLiterals.{csv_on_literals}
use Rattle.rdf_values.proofs.Examples.{AreDue}
use Rattle.rdf_values.specs.{cells_from, ColType, Column, column_of, header_from, integer_of, integers_of, is_cut, is_name, magnitude_of, mark_of, MarkedTable, next_column, row_of, rows_from, table_of, TableCause, Value, vector_of}
use Rattle.rdf_values.specs.tables.TableText.{cell_of}
use Rattle.table_csv.specs.{csv_records}

-- an example: what the bytes spell, and what is due; the first argument says what it shows
abbrev spells : String → List ℕ → Result MarkedTable TableCause → Result MarkedTable TableCause × Result MarkedTable TableCause
spells what bytes due = (table_of (csv_records bytes), due)

-- the table of these columns and rows, and its marks
abbrev table : List Column → List (List Value) → List ℕ → Result MarkedTable TableCause
table columns rows marks = Ok (record { table = record { columns = columns; rows = rows }; marks = marks })

abbrev column : String → ColType → Column
column name kind = record { name = codes name; kind = kind }

no_tables : AreDue (
    spells "no type" (codes "pt") (Err (TableCause.Header 0))
    ∷ spells "no bytes" [] (Err (TableCause.Header 0))
    ∷ spells "same name" (codes "pt:int,pt:int") (Err (TableCause.Header 1))
    ∷ spells "leading zero" (codes "pt:int" ++ 10 ∷ codes "05") (Err (TableCause.BadInt 0 0))
    ∷ spells "plus sign" (codes "pt:int" ++ 10 ∷ codes "+5") (Err (TableCause.BadInt 0 0))
    ∷ spells "minus zero" (codes "pt:int" ++ 10 ∷ codes "-0") (Err (TableCause.BadInt 0 0))
    ∷ spells "last semicolon" (codes "a:int,b:int,c:vec" ++ 10 ∷ codes "1,1,1;") (Err (TableCause.BadVec 0 2))
    ∷ spells "short entry" (codes "a:int,b:int" ++ 10 ∷ codes "1,1" ++ 10 ∷ codes "1") (Err (TableCause.FieldCount 1))
    ∷ spells "first bad field" (codes "a:int,b:vec" ++ 10 ∷ codes "x,y") (Err (TableCause.BadInt 0 0))
    ∷ spells "bad mark" (codes "x:int,k:cut" ++ 10 ∷ codes "1,1" ++ 10 ∷ codes "2,2") (Err (TableCause.BadCut 1 1))
    ∷ spells "marks before a column" (codes "k:cut,x:int") (Err (TableCause.Header 0))
    ∷ [])
unfolding csv_on_literals csv_records is_name integer_of magnitude_of cell_of cells_from column_of header_from integers_of is_cut mark_of next_column row_of rows_from table_of vector_of
no_tables = refl

tables : AreDue (
    spells "CRLF, an empty line, and vectors" (codes "a:int,b:vec" ++ 10 ∷ codes "-3,1;2" ++ 13 ∷ 10 ∷ 10 ∷ codes "4,")
    (table (column "a" ColType.Int ∷ column "b" ColType.Vect ∷ []) ((Value.Int (negsuc 2) ∷ Value.Vect (pos 1 ∷ pos 2 ∷ []) ∷ []) ∷ (Value.Int (pos 4) ∷ Value.Vect [] ∷ []) ∷ []) [])
    ∷ spells "byte order mark" (239 ∷ 187 ∷ 191 ∷ codes "a:int" ++ 10 ∷ codes "7")
    (table (column "a" ColType.Int ∷ []) ((Value.Int (pos 7) ∷ []) ∷ []) [])
    ∷ spells "a lone CR ends a record, and a quoted cell may go on behind its quotes" (codes "a:int" ++ 13 ∷ 34 ∷ codes "1" ++ 34 ∷ codes "2")
    (table (column "a" ColType.Int ∷ []) ((Value.Int (pos 12) ∷ []) ∷ []) [])
    ∷ spells "marked entries" (codes "x:int,k:cut" ++ 10 ∷ codes "1,1" ++ 10 ∷ codes "2,1" ++ 10 ∷ codes "3,0")
    (table (column "x" ColType.Int ∷ []) ((Value.Int (pos 1) ∷ []) ∷ (Value.Int (pos 2) ∷ []) ∷ (Value.Int (pos 3) ∷ []) ∷ []) (0 ∷ 1 ∷ []))
    ∷ [])
unfolding csv_on_literals csv_records is_name integer_of magnitude_of cell_of cells_from column_of header_from integers_of is_cut mark_of next_column row_of rows_from table_of vector_of
tables = refl
