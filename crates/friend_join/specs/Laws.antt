-- Laws of a join, in the words of tables. Each is the contract of a function of this crate, and so proved.
use Rattle.std.specs.Prelude.{◌≡◌, ◌≤◌, ℕ, ℤ, List, length, map, take, None, Ok}
use Rattle.rdf_values.specs.{IsTable, TableView}
use Rattle.friend_join.specs.Joined.{KeyedTable, friend_rows, keys_of}
use Rattle.friend_join.specs.JoinRefused.{first_repeat, join_of}

-- where no key of the friend stands twice, each key has at most one row
abbrev pub KeyHasOneRow : Type 0
KeyHasOneRow = (friend : KeyedTable) (key : ℤ) → first_repeat (keys_of friend) ≡ None → length (friend_rows friend key) ≤ 1

-- a joined table has the main table's entries, each with its own cells in front
abbrev pub EachEntryStays : Type 0
EachEntryStays =
    (main friend table : TableView) (key : List ℕ) (missing : ℤ) → IsTable main → join_of main friend key missing ≡ Ok table
    → map (take (length main.columns)) table.rows ≡ main.rows
