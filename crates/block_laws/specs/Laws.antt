-- Laws of the blocks of a cluster.
use Rattle.std.specs.Prelude.{◌≡◌, ◌+◌, ◌≤◌, ℕ, List, ◌∷◌, length, drop, min, slice_range, map}
use Rattle.rdf_values.specs.{Pass, Value}
use Rattle.rdf_model.specs.{Dataset, first_fault_from, first_of}
use Rattle.block_laws.specs.Blocks.{IsFirst, blocks_of, first_length, row_elements}

-- they are the first block, and those from behind it on
abbrev pub BlocksGoOn : Type 0
BlocksGoOn =
    (size most lo : ℕ) (costs : List ℕ) → 1 ≤ length costs
    → blocks_of size most lo costs ≡ record { lo = lo; hi = lo + first_length size most costs } ∷ blocks_of size most (lo + first_length size most costs) (drop (first_length size most costs) costs)

-- the first block has the entries that it may have, and no more
abbrev pub FirstBlockIsWhole : Type 0
FirstBlockIsWhole = (size most : ℕ) (costs : List ℕ) → 1 ≤ size → 1 ≤ length costs → IsFirst size most costs (first_length size most costs)

-- where no vectors are evaluated it has as many entries as any, or all that are left
abbrev pub PlainBlocksAreEven : Type 0
PlainBlocksAreEven = (size most : ℕ) (rows : List (List Value)) → 1 ≤ size → first_length size most (map (row_elements 0) rows) ≡ min size (length rows)

-- one turn of a loop over the blocks: the first fault of the entries that are left is that of the next block, or else that of the entries
-- behind it
abbrev pub BlockThenRest : Type 0
BlockThenRest =
    (d : Dataset) (rows : List (List Value)) (ps : List Pass) (lo mid hi : ℕ)
    → lo ≤ mid → mid ≤ hi → hi ≤ length rows
    → first_fault_from d lo (slice_range rows lo hi) ps ≡ first_of (first_fault_from d lo (slice_range rows lo mid) ps) (first_fault_from d mid (slice_range rows mid hi) ps)
