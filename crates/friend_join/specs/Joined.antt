-- A table with a friend's columns beside its own. Columns and entries count from 0.
use Rattle.std.specs.Prelude.{ℕ, ℤ, pos, List, [], ◌∷◌, ◌++◌, map, filter, Option, Some, slice_get}
use Rattle.std.specs.List.{remove}
use Rattle.std.specs.Ordering.{int_eq}
use Rattle.rdf_values.specs.{ColType, Column, TableView, Value}

-- a table, and the place of the column that is its key
pub record KeyedTable : Type 0 where
  pub table : TableView
  pub key : ℕ

-- the number that a value is; every other value counts as 0
abbrev pub number_of : Option Value → ℤ
number_of (Some (Value.Int z)) = z
number_of value = pos 0

-- the number of a row in a column
abbrev pub number_at : ℕ → List Value → ℤ
number_at col row = number_of (slice_get row col)

-- the keys of the entries, in order
abbrev pub keys_of : KeyedTable → List ℤ
keys_of keyed = map (number_at keyed.key) keyed.table.rows

-- the friend's rows with this key
abbrev pub friend_rows : KeyedTable → ℤ → List (List Value)
friend_rows friend key = filter (λ row. int_eq key (number_at friend.key row)) friend.table.rows

-- what an entry without a friend has in a column: the number, or the empty vector
abbrev pub missing_value : ℤ → ColType → Value
missing_value missing ColType.Int = Value.Int missing
missing_value missing ColType.Bool = Value.Int missing
missing_value missing ColType.Vect = Value.Vect []

-- the same in each column
abbrev pub missing_row : ℤ → List Column → List Value
missing_row missing columns = map (λ (c : Column). missing_value missing c.kind) columns

-- the first of some rows, or what stands for one
abbrev pub first_or : List Value → List (List Value) → List Value
first_or other [] = other
first_or other (row ∷ rows) = row

-- the cells that an entry with this key gains: those of its friend's row, but the key
abbrev pub gained : KeyedTable → ℤ → ℤ → List Value
gained friend missing key = remove (first_or (missing_row missing friend.table.columns) (friend_rows friend key)) friend.key

-- an entry with what it gains
abbrev pub joined_row : KeyedTable → KeyedTable → ℤ → List Value → List Value
joined_row main friend missing row = row ++ gained friend missing (number_at main.key row)

-- the main table's columns and behind them the friend's without the key; each entry with what it gains
abbrev pub joined_table : KeyedTable → KeyedTable → ℤ → TableView
joined_table main friend missing =
    record { columns = main.table.columns ++ remove friend.table.columns friend.key; rows = map (joined_row main friend missing) main.table.rows }
