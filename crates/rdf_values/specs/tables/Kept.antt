-- How the values of a table are kept: column by column.
use Rattle.std.specs.Prelude.{◌≡◌, ◌≤◌, ℕ, ℤ, pos, ⊤, Bool, true, false, Option, Some, None, List, [], ◌∷◌, ◌++◌, length, map, take, slice_index_or}
use Rattle.rdf_values.specs.clusters.Cuts.{below}
use Rattle.rdf_values.specs.tables.Tables.{FitRows, IsHeader}
use Rattle.rdf_values.specs.declared.tables.cells.Cells.{Cells}
use Rattle.rdf_values.specs.declared.tables.table.Column.{Column}
use Rattle.rdf_values.specs.declared.tables.value.ColType.{ColType}
use Rattle.rdf_values.specs.declared.tables.value.Value.{Value}

-- so many values of this type are kept
abbrev pub IsKept : ColType → ℕ → Cells → Type 0
IsKept ColType.Int n (Cells.Ints ns) = length ns ≡ n
IsKept ColType.Int n (Cells.Vects vs) = ⊥
IsKept ColType.Bool n cells = ⊥
IsKept ColType.Vect n (Cells.Ints ns) = ⊥
IsKept ColType.Vect n (Cells.Vects vs) = length vs ≡ n

-- the same of each column
abbrev pub AreKept : ℕ → List Column → List Cells → Type 0
AreKept n [] [] = ⊤
AreKept n [] (x ∷ xs) = ⊥
AreKept n (c ∷ cs) [] = ⊥
AreKept n (c ∷ cs) (x ∷ xs) = IsKept c.kind n x × AreKept n cs xs

-- how many values a column keeps
abbrev pub count : Cells → ℕ
count (Cells.Ints ns) = length ns
count (Cells.Vects vs) = length vs

-- each column keeps so many
abbrev pub Keep : ℕ → List Cells → Type 0
Keep n [] = ⊤
Keep n (x ∷ xs) = (count x ≡ n) × Keep n xs

-- the value of an entry that is kept
abbrev pub cell_at : ℕ → Cells → Value
cell_at e (Cells.Ints ns) = Value.Int (slice_index_or ns e (pos 0))
cell_at e (Cells.Vects vs) = Value.Vect (slice_index_or vs e [])

-- one more value, if it is of the type
abbrev pub pushed : Cells → Value → Cells
pushed (Cells.Ints ns) (Value.Int n) = Cells.Ints (ns ++ n ∷ [])
pushed (Cells.Ints ns) (Value.Bool b) = Cells.Ints ns
pushed (Cells.Ints ns) (Value.Vect xs) = Cells.Ints ns
pushed (Cells.Vects vs) (Value.Int n) = Cells.Vects vs
pushed (Cells.Vects vs) (Value.Bool b) = Cells.Vects vs
pushed (Cells.Vects vs) (Value.Vect xs) = Cells.Vects (vs ++ xs ∷ [])

-- the vector that a text spells stands behind the others, or it spells none and they are as before
abbrev pub IsVectorPushed : Option (List ℤ) → Bool → List (List ℤ) → List (List ℤ) → Type 0
IsVectorPushed spelt true old new = (elements : List ℤ) × (spelt ≡ Some elements) × (new ≡ old ++ elements ∷ [])
IsVectorPushed spelt false old new = (spelt ≡ None) × (new ≡ old)

-- one more value for each column
abbrev pub row_pushed : List Cells → List Value → List Cells
row_pushed [] row = []
row_pushed (x ∷ xs) [] = x ∷ xs
row_pushed (x ∷ xs) (value ∷ row) = pushed x value ∷ row_pushed xs row

-- the first values
abbrev pub cut_to : ℕ → Cells → Cells
cut_to n (Cells.Ints ns) = Cells.Ints (take n ns)
cut_to n (Cells.Vects vs) = Cells.Vects (take n vs)

-- the rows of so many entries
unfoldable pub rows_kept : ℕ → List Cells → List (List Value)
rows_kept n cells = map (λ e. map (cell_at e) cells) (below n)

-- what is kept are so many rows of a table
pub record HoldsTable (columns : List Column) (cells : List Cells) (entries : ℕ) : Type 0 where
  pub header : IsHeader columns
  pub kept : AreKept entries columns cells
  pub fit : FitRows columns (rows_kept entries cells)
  pub few : entries ≤ 1000000
