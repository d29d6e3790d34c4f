-- The blocks of a cluster, as long as they may be: of so many entries, and fewer where their vectors hold many elements.
use Rattle.std.specs.Prelude.{◌≡◌, ◌⊎◌, ◌<◌, ◌≤◌, ℕ, suc, ◌+◌, ◌*◌, Bool, ◌&&◌, List, [], ◌∷◌, length, map, take, if◌then◌else◌, nat_le, nat_lt, sum, slice_range, false, Some, None, is_some, slice_get, All, count_by, slice_index_or}
use Rattle.std.specs.List.{sum_by}
use Rattle.rdf_values.specs.{Span, Value, Fault, Pass}
use Rattle.rdf_values.specs.declared.tables.value.Value.TheVariants.{Vect}
use Rattle.rdf_model.specs.{Dataset, demanded, first_fault_from}

-- the elements of a cell
abbrev pub elements_in : Value → ℕ
elements_in (Vect zs) = length zs
elements_in v = 0

-- how many elements so many vectors may have together, where none is longer than a row's vector cells are together
abbrev pub row_elements : ℕ → List Value → ℕ
row_elements keys row = keys * sum_by elements_in row

module _ (size most : ℕ) where
  -- one entry more fits behind n entries with s elements
  abbrev pub one_more_fits : ℕ → ℕ → ℕ → Bool
  one_more_fits n s c = nat_lt n size && nat_le (s + c) most

  -- the blocks from the one on that begins at entry lo and has n entries with s elements, where these are the elements of the entries behind
  abbrev pub blocks_from : ℕ → ℕ → ℕ → List ℕ → List Span
  blocks_from lo n s [] = record { lo = lo; hi = lo + n } ∷ []
  blocks_from lo n s (c ∷ cs) = if one_more_fits n s c then blocks_from lo (suc n) (s + c) cs else record { lo = lo; hi = lo + n } ∷ blocks_from (lo + n) 1 c cs

  -- the blocks from entry lo on, where these are the elements of its entries
  abbrev pub blocks_of : ℕ → List ℕ → List Span
  blocks_of lo [] = []
  blocks_of lo (c ∷ cs) = blocks_from lo 1 c cs

  -- how many entries more fit behind n entries with s elements
  abbrev pub more_fit : ℕ → ℕ → List ℕ → ℕ
  more_fit n s [] = 0
  more_fit n s (c ∷ cs) = if one_more_fits n s c then suc (more_fit (suc n) (s + c) cs) else 0

  -- how many entries the first block has
  abbrev pub first_length : List ℕ → ℕ
  first_length [] = 0
  first_length (c ∷ cs) = suc (more_fit 1 c cs)

  -- a first block has at least one entry; it is no longer than the size, nor has it too many elements, unless it is of one entry;
  -- and with one entry more it would be too long or have too many
  pub record IsFirst (costs : List ℕ) (n : ℕ) : Type 0 where
    pub some : 1 ≤ n
    pub within : n ≤ length costs
    pub small : n ≤ size
    pub few : (n ≡ 1) ⊎ (sum (take n costs) ≤ most)
    pub full : n < length costs → (n ≡ size) ⊎ (most < sum (take (n + 1) costs))

-- the blocks of the entries from lo to below hi of a table, for vectors under so many keys
abbrev pub cluster_blocks : ℕ → ℕ → List (List Value) → ℕ → ℕ → List Span
cluster_blocks size keys rows lo hi = blocks_of size 4194304 lo (map (row_elements keys) (slice_range rows lo hi))

-- ---- how much the entries of a cluster demand, block by block up to a fault: pairs of a site and a variation: what is demanded

module _ (d : Dataset) (ps : List Pass) where
  -- how many pairs the passes demand of a row, and of several
  abbrev pub row_demands : List Value → ℕ
  row_demands row = length (demanded d.fns d.columns row ps)

  abbrev pub rows_demand : List (List Value) → ℕ
  rows_demand rows = sum_by row_demands rows

  -- the blocks up to and with the first in which a pass faults
  abbrev pub up_to_fault : List (List (List Value)) → List (List (List Value))
  up_to_fault [] = []
  up_to_fault (b ∷ bs) = b ∷ (if is_some (first_fault_from d 0 b ps) then [] else up_to_fault bs)

  -- how many pairs the passes demand of the entries of these
  abbrev pub blocks_demand : List (List (List Value)) → ℕ
  blocks_demand blocks = sum_by rows_demand (up_to_fault blocks)

-- how many pairs the entries from lo to below hi may cost: those of their blocks up to and with the first in which a pass faults
abbrev pub cluster_demands : Dataset → List Pass → ℕ → ℕ → ℕ → ℕ → ℕ
cluster_demands d ps size keys lo hi = blocks_demand d ps (map (λ (s : Span). slice_range d.rows s.lo s.hi) (cluster_blocks size keys d.rows lo hi))

-- one turn of a loop over these blocks, where the next one ends before entry mid: what is left is its own count, where a pass faults in
-- it, and otherwise with that of those behind it; and none behind the last
abbrev pub CountGoesOn : Type 0
CountGoesOn =
    (d : Dataset) (ps : List Pass) (size keys lo mid hi : ℕ)
    → lo < hi → hi ≤ length d.rows → mid ≡ lo + first_length size 4194304 (map (row_elements keys) (slice_range d.rows lo hi)) → mid ≤ hi
    → ((e : ℕ) (f : Fault) → first_fault_from d e (slice_range d.rows lo mid) ps ≡ Some f → cluster_demands d ps size keys lo hi ≡ rows_demand d ps (slice_range d.rows lo mid))
    × ((e : ℕ) → first_fault_from d e (slice_range d.rows lo mid) ps ≡ None → cluster_demands d ps size keys lo hi ≡ rows_demand d ps (slice_range d.rows lo mid) + cluster_demands d ps size keys mid hi)
    × (rows_demand d ps (slice_range d.rows lo mid) ≤ cluster_demands d ps size keys lo hi)
    × (cluster_demands d ps size keys hi hi ≡ 0)

-- ---- lanes: a list for each key, with a place for each row of a block

-- how many places are marked in all lanes
abbrev pub marked_in : List (List Bool) → ℕ
marked_in lanes = sum_by (λ (l : List Bool). count_by (λ b. b) l) lanes

-- in how many lanes a place is marked
abbrev pub marked_at : List (List Bool) → ℕ → ℕ
marked_at lanes i = count_by (λ (l : List Bool). slice_index_or l i false) lanes

-- where the place of each row is marked in no more lanes than the row demands pairs, no more places are marked than all rows demand
abbrev pub MarkedAreWithin : Type 0
MarkedAreWithin =
    (lanes : List (List Bool)) (rows : List (List Value)) (f : List Value → ℕ)
    → All (λ (l : List Bool). length l ≤ length rows) lanes
    → ((i : ℕ) (row : List Value) → slice_get rows i ≡ Some row → marked_at lanes i ≤ f row)
    → marked_in lanes ≤ sum_by f rows
