-- The lines that a refusal prints.
use Rattle.std.specs.Prelude.{ℕ, List, [], ◌∷◌, ◌++◌, codes, decimal}
use Rattle.rdf_values.specs.declared.expressions.expr.ExprCause.{ExprCause}
use Rattle.rdf_values.specs.declared.expressions.expr.ExprCause.TheVariants.{BadByte, BadNumber, Unexpected, TooLong}
use Rattle.rdf_values.specs.declared.scripts.script_cause.ScriptCause.{ScriptCause}
use Rattle.rdf_values.specs.declared.scripts.script_cause.GraphCause.{GraphCause}
use Rattle.rdf_values.specs.declared.tables.table.TableCause.{TableCause}

-- a text as a line
abbrev pub line : List ℕ → List ℕ
line text = text ++ 10 ∷ []

-- ---- files

abbrev pub read_failed_line : List ℕ → List ℕ
read_failed_line name = line (codes "read failed: " ++ name)

abbrev pub no_file_line : List ℕ → List ℕ
no_file_line name = line (codes "no file " ++ name)

abbrev pub long_script_line : List ℕ
long_script_line = line (codes "script refused: longer than 65536 bytes")

abbrev pub long_table_line : List ℕ
long_table_line = line (codes "table refused: longer than 67108864 bytes")

-- ---- scripts

-- why a text is no expression
abbrev pub expr_cause_text : ExprCause → List ℕ
expr_cause_text BadByte = codes "E1 BadByte"
expr_cause_text BadNumber = codes "E2 BadNumber"
expr_cause_text Unexpected = codes "E3 Unexpected"
expr_cause_text TooLong = codes "E4 TooLong"

-- why a statement is refused after those before it
abbrev pub graph_cause_text : GraphCause → List ℕ
graph_cause_text GraphCause.NameTaken = codes "S2 NameTaken"
graph_cause_text GraphCause.UnknownName = codes "S3 UnknownName"
graph_cause_text GraphCause.UnknownColumn = codes "S4 UnknownColumn"
graph_cause_text GraphCause.UnknownFunction = codes "S5 UnknownFunction"
graph_cause_text GraphCause.WrongType = codes "S7 WrongType"
graph_cause_text GraphCause.WrongCount = codes "S8 WrongCount"
graph_cause_text GraphCause.AliasTarget = codes "S10 AliasTarget"
graph_cause_text GraphCause.Late = codes "S11 Late"
graph_cause_text GraphCause.BadEdges = codes "S12 BadEdges"
graph_cause_text GraphCause.TooMany = codes "S13 TooMany"
graph_cause_text GraphCause.WrongKind = codes "S14 WrongKind"

-- a line of the script is refused for a cause
abbrev pub at_line : ℕ → List ℕ → List ℕ
at_line number cause = line (codes "script refused at line " ++ decimal number ++ codes ": " ++ cause)

-- a line of the script is refused at a place, counted from 0, for a cause
abbrev pub at_place : ℕ → ℕ → List ℕ → List ℕ
at_place number place cause = line (codes "script refused at line " ++ decimal number ++ codes " place " ++ decimal place ++ codes ": " ++ cause)

-- why a text is no script
abbrev pub script_cause_line : ScriptCause → List ℕ
script_cause_line (ScriptCause.Syntax number place) = at_place number place (codes "S1 Syntax")
script_cause_line (ScriptCause.Expression number place cause) = at_place number place (expr_cause_text cause)
script_cause_line (ScriptCause.TooMany number) = at_line number (codes "S13 TooMany")

-- why a script that reads is refused over a table
abbrev pub graph_cause_line : ℕ → GraphCause → List ℕ
graph_cause_line number cause = at_line number (graph_cause_text cause)

-- ---- tables

-- an entry of the table is refused for a cause
abbrev pub at_entry : ℕ → List ℕ → List ℕ
at_entry entry cause = line (codes "table refused at entry " ++ decimal entry ++ codes ": " ++ cause)

-- a field of an entry is refused for a cause
abbrev pub at_field : ℕ → ℕ → List ℕ → List ℕ
at_field entry field cause = line (codes "table refused at entry " ++ decimal entry ++ codes " field " ++ decimal field ++ codes ": " ++ cause)

-- why a text is no table
abbrev pub table_cause_line : TableCause → List ℕ
table_cause_line (TableCause.Header field) = line (codes "table refused at header field " ++ decimal field ++ codes ": B1 Header")
table_cause_line (TableCause.FieldCount entry) = at_entry entry (codes "B2 FieldCount")
table_cause_line (TableCause.BadInt entry field) = at_field entry field (codes "B3 BadInt")
table_cause_line (TableCause.BadVec entry field) = at_field entry field (codes "B4 BadVec")
table_cause_line (TableCause.TooMany entry) = at_entry entry (codes "B5 TooMany")
table_cause_line (TableCause.BadCut entry field) = at_field entry field (codes "B6 BadCut")
