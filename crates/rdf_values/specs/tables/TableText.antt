-- The table that the records of a text spell, or the first refusal. Fields and entries count from 0.
use Rattle.std.specs.Prelude.{ℕ, ℤ, ◌+◌, Bool, true, false, not, ◌&&◌, List, [], ◌∷◌, ◌++◌, length, map, drop, Option, Some, None, ok_or, option_map, option_and_then, Result, Ok, Err, if◌then◌else◌, nat_eq, nat_lt, nat_le, codes, ◌≡◌, ◌<◌}
use Rattle.std.specs.List.{after_first, before_first, slice_split}
use Rattle.rdf_values.specs.tables.Integers.{integer_of}
use Rattle.rdf_values.specs.scripts.Names.{is_name, same}
use Rattle.rdf_values.specs.tables.Tables.{TableView, has_name}
use Rattle.rdf_values.specs.declared.tables.table.Column.{Column}
use Rattle.rdf_values.specs.declared.tables.table.TableCause.{TableCause}
use Rattle.rdf_values.specs.declared.tables.value.ColType.{ColType}
use Rattle.rdf_values.specs.declared.tables.value.Value.{Value}
use Rattle.std.specs.Borrow.{Bor}

-- the first and the rest, where both are there
abbrev pub option_cons : {A : Type 0} → Option A → Option (List A) → Option (List A)
option_cons None xs = None
option_cons (Some x) None = None
option_cons (Some x) (Some xs) = Some (x ∷ xs)

-- the first and the rest, or the refusal that comes first
abbrev pub result_cons : {A E : Type 0} → Result A E → Result (List A) E → Result (List A) E
result_cons (Err e) xs = Err e
result_cons (Ok x) (Err e) = Err e
result_cons (Ok x) (Ok xs) = Ok (x ∷ xs)

-- what follows from the value, or its refusal
abbrev pub on_ok : {A B E : Type 0} → Result A E → (A → Result B E) → Result B E
on_ok (Err e) next = Err e
on_ok (Ok x) next = next x

-- ---- the header

-- the type of a column, as a header writes it
abbrev pub type_of : List ℕ → Option ColType
type_of word = if same word (codes "int") then Some ColType.Int else if same word (codes "vec") then Some ColType.Vect else None

abbrev pub is_colon : ℕ → Bool
is_colon b = nat_eq b 58

-- the column of a header's field: a name, a colon, and its type
unfoldable pub column_of : List ℕ → Option Column
column_of field =
    if is_name (before_first is_colon field) then option_map (λ kind. record { name = before_first is_colon field; kind = kind }) (type_of (after_first is_colon field)) else None

-- the column, where fewer than 64 stand before it and none of these has its name
abbrev pub if_new : List Column → Column → Option Column
if_new before column = if nat_lt (length before) 64 && not (has_name before column.name) then Some column else None

-- the column of a field, where these columns stand before it
unfoldable pub next_column : List Column → List ℕ → Option Column
next_column before field = option_and_then (if_new before) (column_of field)

-- a header: the columns, and whether a field of marks stands behind them
pub record Header : Type 0 where
  pub columns : List Column
  pub marked : Bool

-- the field says that its cells are marks: it has a name that no column before it has, and isn't the first
unfoldable pub is_cut : List Column → List ℕ → Bool
is_cut before field =
    not (nat_eq (length before) 0) && is_name (before_first is_colon field) && same (after_first is_colon field) (codes "cut") && not (has_name before (before_first is_colon field))

-- one field is left, and it is one of marks
abbrev pub ends_in_cut : List Column → List (List ℕ) → Bool
ends_in_cut before [] = false
ends_in_cut before (field ∷ []) = is_cut before field
ends_in_cut before (field ∷ next ∷ fields) = false

-- the header with one more column in front
abbrev pub with_column : Column → Result Header TableCause → Result Header TableCause
with_column column (Err e) = Err e
with_column column (Ok h) = Ok (record { columns = column ∷ h.columns; marked = h.marked })

-- the header of the fields from number i on, where these columns stand before them
unfoldable pub header_from : ℕ → List Column → List (List ℕ) → Result Header TableCause
header_from i before [] = Ok (record { columns = []; marked = false })
header_from i before (field ∷ fields) =
    if ends_in_cut before (field ∷ fields) then Ok (record { columns = []; marked = true })
    else on_ok (ok_or (next_column before field) (TableCause.Header i)) (λ column. with_column column (header_from (i + 1) (before ++ column ∷ []) fields))

-- ---- the entries

abbrev pub is_semicolon : ℕ → Bool
is_semicolon b = nat_eq b 59

-- the numbers that the texts spell, where each spells one
unfoldable pub integers_of : List (List ℕ) → Option (List ℤ)
integers_of [] = Some []
integers_of (text ∷ texts) = option_cons (integer_of text) (integers_of texts)

-- no element, or 1 to 4,096 canonical integers with `;` between them
unfoldable pub vector_of : List ℕ → Option (List ℤ)
vector_of [] = Some []
vector_of (b ∷ bs) = let parts = slice_split is_semicolon (b ∷ bs) in if nat_le (length parts) 4096 then integers_of parts else None

-- the value of field number i of entry number e, by the column's type; no column of a header holds truth values
unfoldable pub cell_of : ℕ → ℕ → ColType → List ℕ → Result Value TableCause
cell_of e i ColType.Int text = ok_or (option_map Value.Int (integer_of text)) (TableCause.BadInt e i)
cell_of e i ColType.Vect text = ok_or (option_map Value.Vect (vector_of text)) (TableCause.BadVec e i)
cell_of e i ColType.Bool text = Err (TableCause.BadInt e i)

-- the values of the fields of entry number e from number i on
unfoldable pub cells_from : ℕ → ℕ → List Column → List (List ℕ) → Result (List Value) TableCause
cells_from e i [] fields = Ok []
cells_from e i (column ∷ columns) [] = Ok []
cells_from e i (column ∷ columns) (field ∷ fields) = result_cons (cell_of e i column.kind field) (cells_from e (i + 1) columns fields)

-- a row, and whether a cluster begins there
pub record MarkedRow : Type 0 where
  pub row : List Value
  pub marked : Bool

-- the mark of field number i of entry number e: `0` or `1`
unfoldable pub mark_of : ℕ → ℕ → List ℕ → Result Bool TableCause
mark_of e i text = if same text (codes "0") then Ok false else if same text (codes "1") then Ok true else Err (TableCause.BadCut e i)

-- the mark in the field behind the columns, where the header has one
abbrev pub mark_in : ℕ → ℕ → Bool → List (List ℕ) → Result Bool TableCause
mark_in e i false fields = Ok false
mark_in e i true [] = Ok false
mark_in e i true (field ∷ fields) = mark_of e i field

-- how many fields each entry has
abbrev pub field_count : Header → ℕ
field_count h = length h.columns + (if h.marked then 1 else 0)

-- the row of entry number e
unfoldable pub row_of : ℕ → Header → List (List ℕ) → Result MarkedRow TableCause
row_of e h fields =
    if nat_le 1000000 e then Err (TableCause.TooMany e)
    else if nat_eq (length fields) (field_count h) then on_ok (cells_from e 0 h.columns fields) (λ row. on_ok (mark_in e (length h.columns) h.marked (drop (length h.columns) fields)) (λ marked. Ok (record { row = row; marked = marked })))
    else Err (TableCause.FieldCount e)

-- the rows of the entries from number e on
unfoldable pub rows_from : ℕ → Header → List (List (List ℕ)) → Result (List MarkedRow) TableCause
rows_from e h [] = Ok []
rows_from e h (entry ∷ entries) = result_cons (row_of e h entry) (rows_from (e + 1) h entries)

-- a table, and the entries at which a mark says that a cluster begins
pub record MarkedTable : Type 0 where
  pub table : TableView
  pub marks : List ℕ

-- the entries that are marked, numbered from e on
abbrev pub marks_from : ℕ → List MarkedRow → List ℕ
marks_from e [] = []
marks_from e (r ∷ rs) = if r.marked then e ∷ marks_from (e + 1) rs else marks_from (e + 1) rs

-- the table of these columns and rows
abbrev pub table_with : List Column → List MarkedRow → Result MarkedTable TableCause
table_with columns rows = Ok (record { table = record { columns = columns; rows = map (λ (r : MarkedRow). r.row) rows }; marks = marks_from 0 rows })

-- the table of the records, of which the first is the header
unfoldable pub table_of : List (List (List ℕ)) → Result MarkedTable TableCause
table_of [] = Err (TableCause.Header 0)
table_of (header ∷ entries) = on_ok (header_from 0 [] header) (λ h. on_ok (rows_from 0 h entries) (table_with h.columns))

-- ---- the elements of a vector, one after another

-- the first part of the text spells this element, and this stands after the `;` behind it
abbrev pub IsElement : List ℕ → ℤ → Option (Bor (List ℕ)) → Type 0
IsElement text n None = (part : List ℕ) × (slice_split is_semicolon text ≡ part ∷ []) × (integer_of part ≡ Some n)
IsElement text n (Some rest) = (part : List ℕ) × (slice_split is_semicolon text ≡ part ∷ slice_split is_semicolon rest.now) × (integer_of part ≡ Some n) × (length rest.now < length text)

-- the first part of the text spells none
abbrev pub HasNoElement : List ℕ → Type 0
HasNoElement text = (part : List ℕ) × (parts : List (List ℕ)) × (slice_split is_semicolon text ≡ part ∷ parts) × (integer_of part ≡ None)

-- the elements that a text spells stand behind others, or it spells no vector
abbrev pub AreRead : Option (List ℤ) → Bool → List ℤ → List ℤ → Type 0
AreRead spelt true old new = (elements : List ℤ) × (spelt ≡ Some elements) × (new ≡ old ++ elements)
AreRead spelt false old new = spelt ≡ None
