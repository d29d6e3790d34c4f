-- Why a friend isn't joined: the first cause that applies. Columns and entries count from 0.
use Rattle.std.specs.Prelude.{ℕ, ℤ, ◌+◌, ◌-◌, Bool, true, false, not, ◌&&◌, List, [], ◌∷◌, ◌++◌, length, Option, Some, None, ok_or, position, Result, Ok, Err, if◌then◌else◌, nat_lt}
use Rattle.std.specs.List.{list_any, sum_by}
use Rattle.std.specs.Ordering.{int_eq}
use Rattle.rdf_values.specs.{ColType, Column, on_ok, same, TableView, Value}
use Rattle.friend_join.specs.Joined.{KeyedTable, joined_table, keys_of}
use Rattle.friend_join.specs.declared.cause.JoinCause.{JoinCause}

-- ---- the key

abbrev pub is_int : ColType → Bool
is_int ColType.Int = true
is_int ColType.Bool = false
is_int ColType.Vect = false

-- an int column of that name
abbrev pub is_key : List ℕ → Column → Bool
is_key key c = same c.name key && is_int c.kind

-- the place of the int column of that name
abbrev pub key_place : List ℕ → List Column → Option ℕ
key_place key columns = position (is_key key) columns

-- ---- the columns

-- a column of that name is among the columns
abbrev pub has_column : List Column → List ℕ → Bool
has_column columns name = list_any (λ (c : Column). same c.name name) columns

-- the column isn't the key, and its name is among the columns
abbrev pub is_taken : List Column → List ℕ → Column → Bool
is_taken columns key c = not (same c.name key) && has_column columns c.name

-- the first of the friend's columns, but the key, whose name the main table has
abbrev pub first_taken : List Column → List ℕ → List Column → Option ℕ
first_taken columns key others = position (is_taken columns key) others

abbrev pub most_columns : ℕ
most_columns = 64

-- ---- the entries

-- the first of the numbers, counted from e, that is among those seen or that stood before
abbrev pub repeat_from : ℕ → List ℤ → List ℤ → Option ℕ
repeat_from e seen [] = None
repeat_from e seen (n ∷ ns) = if list_any (int_eq n) seen then Some e else repeat_from (e + 1) (seen ++ n ∷ []) ns

-- the first number that stood before
abbrev pub first_repeat : List ℤ → Option ℕ
first_repeat ns = repeat_from 0 [] ns

-- how many elements a value has
abbrev pub elements_of : Value → ℕ
elements_of (Value.Int z) = 0
elements_of (Value.Bool b) = 0
elements_of (Value.Vect ns) = length ns

abbrev pub row_elements : List Value → ℕ
row_elements row = sum_by elements_of row

-- how many elements the vectors of some rows have together
abbrev pub elements : List (List Value) → ℕ
elements rows = sum_by row_elements rows

abbrev pub most_elements : ℕ
most_elements = 33554432

-- ---- the joined table, or the first refusal

-- refused where there is a place; else what follows
abbrev pub unless_at : {A : Type 0} → Option ℕ → (ℕ → JoinCause) → Result A JoinCause → Result A JoinCause
unless_at None why next = next
unless_at (Some place) why next = Err (why place)

-- refused where the number is above the most; else what follows
abbrev pub unless_above : {A : Type 0} → ℕ → ℕ → (ℕ → JoinCause) → Result A JoinCause → Result A JoinCause
unless_above most n why next = if nat_lt most n then Err (why n) else next

-- where no key of the friend stands twice and the joined table's vectors aren't too large
unfoldable pub join_entries : KeyedTable → KeyedTable → ℤ → Result TableView JoinCause
join_entries main friend missing =
    unless_at (first_repeat (keys_of friend)) JoinCause.Duplicate
    (unless_above most_elements (elements (joined_table main friend missing).rows) JoinCause.TooLarge (Ok (joined_table main friend missing)))

-- where besides the names of all columns differ and there aren't too many
unfoldable pub join_columns : List ℕ → KeyedTable → KeyedTable → ℤ → Result TableView JoinCause
join_columns key main friend missing =
    unless_at (first_taken main.table.columns key friend.table.columns) JoinCause.NameTaken
    (unless_above most_columns (length main.table.columns + length friend.table.columns - 1) JoinCause.TooManyColumns (join_entries main friend missing))

-- where besides both tables have an int column of the key's name
unfoldable pub join_of : TableView → TableView → List ℕ → ℤ → Result TableView JoinCause
join_of main friend key missing =
    on_ok (ok_or (key_place key main.columns) (JoinCause.NoKey false)) (λ own.
    on_ok (ok_or (key_place key friend.columns) (JoinCause.NoKey true)) (λ other. join_columns key (record { table = main; key = own }) (record { table = friend; key = other }) missing))
