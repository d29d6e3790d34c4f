-- Tables: a list of columns, and a list of rows that fit them.
use Rattle.std.specs.Prelude.{ℕ, ℤ, ◌≡◌, ◌≤◌, ◌<◌, ⊤, Bool, false, ◌||◌, length, map, List, [], ◌∷◌, ◌++◌, Option, Some, option_and_then, option_map, slice_get, bytes_eq}
use Rattle.rdf_values.specs.scripts.Words.{IsBounded}
use Rattle.rdf_values.specs.declared.tables.table.Column.{Column}
use Rattle.rdf_values.specs.declared.tables.value.Cell.{Cell}
use Rattle.rdf_values.specs.declared.tables.value.ColType.{ColType}
use Rattle.rdf_values.specs.declared.tables.value.Value.{Value}

-- what a contract sees of a table
pub record TableView : Type 0 where
  pub columns : List Column
  pub rows : List (List Value)

-- the value that a table gives
abbrev pub value_of : Cell → Value
value_of (Cell.Int n) = Value.Int n
value_of (Cell.Vect ns) = Value.Vect ns.now

-- a value is of a column's kind, and a vector has at most 4,096 elements
abbrev pub FitsKind : ColType → Value → Type 0
FitsKind ColType.Int (Value.Int n) = ⊤
FitsKind ColType.Int (Value.Bool b) = ⊥
FitsKind ColType.Int (Value.Vect ns) = ⊥
FitsKind ColType.Bool (Value.Int n) = ⊥
FitsKind ColType.Bool (Value.Bool b) = ⊤
FitsKind ColType.Bool (Value.Vect ns) = ⊥
FitsKind ColType.Vect (Value.Int n) = ⊥
FitsKind ColType.Vect (Value.Bool b) = ⊥
FitsKind ColType.Vect (Value.Vect ns) = length ns ≤ 4096

-- a value of a table is of its column's kind, and its numbers have 64 bits
abbrev pub FitsColumn : ColType → Value → Type 0
FitsColumn kind value = FitsKind kind value × IsBounded value

-- one value per column, each one that fits it
abbrev pub FitsRow : List Column → List Value → Type 0
FitsRow [] [] = ⊤
FitsRow [] (x ∷ xs) = ⊥
FitsRow (c ∷ cs) [] = ⊥
FitsRow (c ∷ cs) (x ∷ xs) = FitsColumn c.kind x × FitsRow cs xs

abbrev pub FitRows : List Column → List (List Value) → Type 0
FitRows cols [] = ⊤
FitRows cols (row ∷ rows) = FitsRow cols row × FitRows cols rows

-- a column of that name stands in the list
abbrev pub has_name : List Column → List ℕ → Bool
has_name [] name = false
has_name (c ∷ cs) name = bytes_eq c.name name || has_name cs name

-- a table holds numbers and vectors, and no truth values
abbrev pub IsStored : ColType → Type 0
IsStored ColType.Int = ⊤
IsStored ColType.Bool = ⊥
IsStored ColType.Vect = ⊤

-- each column has a name that none before it has, and a kind that a table holds
abbrev pub AreColumns : List Column → List Column → Type 0
AreColumns seen [] = ⊤
AreColumns seen (c ∷ cs) = (has_name seen c.name ≡ false) × IsStored c.kind × AreColumns (seen ++ c ∷ []) cs

-- 1 to 64 columns with distinct names
pub record IsHeader (columns : List Column) : Type 0 where
  pub some : 0 < length columns
  pub few : length columns ≤ 64
  pub distinct : AreColumns [] columns

-- what every table meets
pub record IsTable (t : TableView) : Type 0 where
  pub header : IsHeader t.columns
  pub fit : FitRows t.columns t.rows
  pub few : length t.rows ≤ 1000000

-- ---- the values of a table

-- the type of a column, by its number
abbrev pub kind_at : List Column → ℕ → Option ColType
kind_at columns col = option_map (λ c. c.kind) (slice_get columns col)

-- the value of an entry's column
abbrev pub cell : TableView → ℕ → ℕ → Option Value
cell table entry col = option_and_then (λ row. slice_get row col) (slice_get table.rows entry)

-- the values of a column, entry after entry
abbrev pub column : TableView → ℕ → List (Option Value)
column table col = map (λ row. slice_get row col) table.rows

-- the column holds these numbers
abbrev pub IsIntColumn : TableView → ℕ → List ℤ → Type 0
IsIntColumn table col numbers = column table col ≡ map (λ n. Some (Value.Int n)) numbers

-- the column holds these vectors
abbrev pub IsVectColumn : TableView → ℕ → List (List ℤ) → Type 0
IsVectColumn table col vectors = column table col ≡ map (λ ns. Some (Value.Vect ns)) vectors
