-- The friend's entries that match, and what they give, as the code goes about it: column by column.
use Rattle.std.specs.Prelude.{ℕ, ℤ, pos, ◌≤◌, ◌<◌, ⊤, All, List, [], ◌∷◌, length, map, position, Option, Some, None, slice_index_or}
use Rattle.std.specs.List.{sum_by}
use Rattle.std.specs.Ordering.{int_eq}
use Rattle.rdf_values.specs.{Cells, count, rows_kept, TableView}
use Rattle.columns.specs.{PiecesParts, whole}
use Rattle.friend_join.specs.Joined.{KeyedTable}

-- the table of columns in pieces
abbrev pub table_in : PiecesParts → TableView
table_in parts = record { columns = parts.columns; rows = rows_kept parts.entries (map whole parts.pieces.items) }

-- the same with the place of its key
abbrev pub keyed_in : PiecesParts → ℕ → KeyedTable
keyed_in parts key = record { table = table_in parts; key = key }

-- ---- the entries that match

-- the values are numbers
abbrev pub AreInts : Cells → Type 0
AreInts (Cells.Ints numbers) = ⊤
AreInts (Cells.Vects vectors) = ⊥

-- the numbers of a column
abbrev pub ints_in : Cells → List ℤ
ints_in (Cells.Ints numbers) = numbers
ints_in (Cells.Vects vectors) = []

-- the entry at which a key stands, the first of them
abbrev pub entry_of : List ℤ → ℤ → Option ℕ
entry_of keys key = position (int_eq key) keys

-- the entries, where there are any, are below the number
abbrev pub AreBelow : ℕ → List (Option ℕ) → Type 0
AreBelow n [] = ⊤
AreBelow n (None ∷ ms) = AreBelow n ms
AreBelow n (Some e ∷ ms) = (e < n) × AreBelow n ms

-- they are entries of each column
abbrev pub AreEntries : List (Option ℕ) → List Cells → Type 0
AreEntries matches [] = ⊤
AreEntries matches (x ∷ xs) = AreBelow (count x) matches × AreEntries matches xs

-- ---- the values at the entries that match

abbrev pub number_for : ℤ → List ℤ → Option ℕ → ℤ
number_for missing numbers None = missing
number_for missing numbers (Some e) = slice_index_or numbers e (pos 0)

abbrev pub vector_for : List (List ℤ) → Option ℕ → List ℤ
vector_for vectors None = []
vector_for vectors (Some e) = slice_index_or vectors e []

-- a column's values at the entries that match, and what stands for them where none does
abbrev pub matched_cells : ℤ → List (Option ℕ) → Cells → Cells
matched_cells missing matches (Cells.Ints numbers) = Cells.Ints (map (number_for missing numbers) matches)
matched_cells missing matches (Cells.Vects vectors) = Cells.Vects (map (vector_for vectors) matches)

-- ---- elements

-- how many elements the vectors of a column have together
abbrev pub column_elements : Cells → ℕ
column_elements (Cells.Ints numbers) = 0
column_elements (Cells.Vects vectors) = sum_by length vectors

-- how many the vector at an entry that matches has
abbrev pub length_for : List (List ℤ) → Option ℕ → ℕ
length_for vectors match = length (vector_for vectors match)

-- the same of a column's vectors at the entries that match
abbrev pub matched_elements : List (Option ℕ) → Cells → ℕ
matched_elements matches (Cells.Ints numbers) = 0
matched_elements matches (Cells.Vects vectors) = sum_by (length_for vectors) matches

-- a column has at most 1,000,000 values, and each vector at most 4,096 elements
abbrev pub IsSmall : Cells → Type 0
IsSmall (Cells.Ints numbers) = length numbers ≤ 1000000
IsSmall (Cells.Vects vectors) = (length vectors ≤ 1000000) × All (λ (v : List ℤ). length v ≤ 4096) vectors

-- the same of each column
abbrev pub AreSmall : List Cells → Type 0
AreSmall [] = ⊤
AreSmall (x ∷ xs) = IsSmall x × AreSmall xs
