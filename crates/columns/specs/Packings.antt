-- How the numbers of a cluster are packed: the least of them, and each one's difference to it in the fewest bytes.
use Rattle.std.specs.Prelude.{◌≡◌, ◌⊎◌, ℕ, zero, suc, ℤ, pos, ◌≤◌, ◌<◌, ◌^◌, ◌-ℤ◌, ◌+ℤ◌, ◌≤ℤ◌, All, Contains, List, [], ◌∷◌, drop, flat_map, slice_index, unsigned_abs, if◌then◌else◌, nat_eq, nat_lt, ◌+◌, Some, slice_index_or, ◌*◌, ⊤, length, take, map, slice_range}
use Rattle.std.specs.Int.{bytes_low_first, from_le_bytes, int_max, int_min, w16, w32, w64}
use Rattle.columns.specs.declared.packing.Packing.{Packing}
use Rattle.rdf_values.specs.{cell, TableView, Value, Span}
use Rattle.std.specs.Int.RustNames.{FitsSigned}
use mir.Syntax.{w64 as bits64}
use Rattle.columns.specs.declared.packed_ints.PackedCluster.{PackedCluster}

-- ---- the widths of packed numbers

pub record IsWidth (w : ℕ) : Type 0 where
  pub one_of : (w ≡ 0) ⊎ (w ≡ 1) ⊎ (w ≡ 2) ⊎ (w ≡ 4) ⊎ (w ≡ 8)

-- the least of a number and others, and the greatest
abbrev pub least_from : ℤ → List ℤ → ℤ
least_from z [] = z
least_from z (x ∷ xs) = least_from (int_min z x) xs

abbrev pub greatest_from : ℤ → List ℤ → ℤ
greatest_from z [] = z
greatest_from z (x ∷ xs) = greatest_from (int_max z x) xs

-- the fewest of 0, 1, 2, 4 and 8 bytes in which a number fits
abbrev pub width_of : ℕ → ℕ
width_of n = if nat_eq n 0 then 0 else if nat_lt n 256 then 1 else if nat_lt n 65536 then 2 else if nat_lt n 4294967296 then 4 else 8

-- how numbers are packed
abbrev pub packing_of : List ℤ → Packing
packing_of [] = record { least = pos 0; width = 0 }
packing_of (z ∷ zs) = record { least = least_from z zs; width = width_of (unsigned_abs (greatest_from z zs -ℤ least_from z zs)) }

-- the lowest bytes of a number, lowest first
abbrev pub low_bytes : ℕ → ℕ → List ℕ
low_bytes w n = bytes_low_first 0 w n

-- the bytes of numbers: each one's difference to the least, lowest byte first
abbrev pub packed_by : Packing → List ℤ → List ℕ
packed_by p zs = flat_map (λ z. low_bytes p.width (unsigned_abs (z -ℤ p.least))) zs

-- the bytes of numbers, as they are packed
abbrev pub packed_of : List ℤ → List ℕ
packed_of zs = packed_by (packing_of zs) zs

-- ---- reading

-- the number in the first bytes, lowest first
abbrev pub number_in : ℕ → List ℕ → ℕ
number_in w bs = if nat_eq w 0 then 0 else if nat_eq w 1 then slice_index bs 0 else if nat_eq w 2 then from_le_bytes w16 bs else if nat_eq w 4 then from_le_bytes w32 bs else from_le_bytes w64 bs

-- so many numbers from their bytes
abbrev pub values_in : ℤ → ℕ → ℕ → List ℕ → List ℤ
values_in least w zero bs = []
values_in least w (suc n) bs = (least +ℤ pos (number_in w bs)) ∷ values_in least w n (drop w bs)

-- the packing of numbers: the least of them, and the fewest bytes that hold each one's difference to it
pub record IsTight (values : List ℤ) (p : Packing) : Type 0 where
  pub below : All (λ z. p.least ≤ℤ z) values
  pub reached : Contains values p.least
  pub width : IsWidth p.width
  pub enough : All (λ z. unsigned_abs (z -ℤ p.least) < 256 ^ p.width) values
  pub fewest : (w : ℕ) → IsWidth w → All (λ z. unsigned_abs (z -ℤ p.least) < 256 ^ w) values → p.width ≤ w

-- the first of these are the numbers of a column at so many entries, from one on
pub record AreInts (t : TableView) (first count col : ℕ) (numbers : List ℤ) : Type 0 where
  pub each : (p : ℕ) → p < count → cell t (first + p) col ≡ Some (Value.Int (slice_index_or numbers p (pos 0)))

-- ---- how the numbers of an int column are kept: their bytes, cluster after cluster, and one block for each

-- the numbers of each cluster
abbrev pub cluster_values : List Span → List ℤ → List (List ℤ)
cluster_values spans numbers = map (λ s. slice_range numbers s.lo s.hi) spans

-- the numbers that a block's bytes spell
abbrev pub block_values : List ℕ → PackedCluster → List ℤ
block_values bytes b = values_in b.packing.least b.packing.width b.entries (drop b.begin bytes)

-- a block holds these numbers, packed
pub record IsBlock (bytes : List ℕ) (b : PackedCluster) (values : List ℤ) : Type 0 where
  pub entries : b.entries ≡ length values
  pub packing : b.packing ≡ packing_of values
  pub inside : b.begin + length (packed_of values) ≤ length bytes
  pub kept : take (length (packed_of values)) (drop b.begin bytes) ≡ packed_of values
  pub words : All (FitsSigned bits64) values

-- the first so many numbers in bytes that are packed so are these
pub record AreNumbers (p : Packing) (bytes : List ℕ) (n : ℕ) (values : List ℤ) : Type 0 where
  pub inside : n * p.width ≤ length bytes
  pub width : IsWidth p.width
  pub spelt : values_in p.least p.width n bytes ≡ values
  pub words : All (FitsSigned bits64) (values_in p.least p.width n bytes)

-- each block holds the numbers of its cluster
abbrev pub AreBlocks : List ℕ → List PackedCluster → List (List ℤ) → Type 0
AreBlocks bytes [] [] = ⊤
AreBlocks bytes [] (v ∷ vs) = ⊥
AreBlocks bytes (b ∷ bs) [] = ⊥
AreBlocks bytes (b ∷ bs) (v ∷ vs) = IsBlock bytes b v × AreBlocks bytes bs vs
