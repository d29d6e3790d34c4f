-- The edges of an axis.
use Rattle.std.specs.Prelude.{◌≡◌, ◌<◌, ◌-◌, ◌^◌, ℤ, List, length, true, ℕ, ◌/◌, ◌-ℤ◌, pos, slice_index, slice_index_or, unsigned_abs}
use Rattle.rdf_values.specs.{are_edges}
use Rattle.histograms.specs.declared.buckets.Buckets.{Buckets}

-- two edges or more that strictly rise, few enough that the cells have numbers of 32 bits
pub record IsAxis (edges : List ℤ) : Type 0 where
  pub rise : are_edges edges ≡ true
  pub few : length edges < 2 ^ 32 - 1

-- ---- buckets over the edges of an axis

-- the bucket of a number from the first edge on
abbrev pub bucket_of : ℤ → ℕ → ℤ → ℕ
bucket_of first shift value = unsigned_abs (value -ℤ first) / 2 ^ shift

-- where the buckets so far begin, when so many of the edges, which lie in these buckets, are in place
pub record AreStarts (bucket : ℕ → ℕ) (edges : ℕ) (starts : List ℕ) (placed : ℕ) : Type 0 where
  pub cells : (b : ℕ) → b < length starts → slice_index starts b < edges
  pub below : (b k : ℕ) → b < length starts → k < slice_index starts b → bucket k < b
  pub reached : (k : ℕ) → k < placed → bucket k < length starts

-- the bucket of an edge by its place
abbrev pub bucket_of_edge : ℤ → ℕ → List ℤ → ℕ → ℕ
bucket_of_edge first shift edges k = bucket_of first shift (slice_index_or edges k (pos 0))

-- the buckets of these edges
pub record KeepsBuckets (edges : List ℤ) (buckets : Buckets) : Type 0 where
  pub first : slice_index_or edges 0 (pos 0) ≡ buckets.first
  pub last : slice_index_or edges (length edges - 1) (pos 0) ≡ buckets.last
  pub shift : buckets.shift < 64
  pub starts : AreStarts (bucket_of_edge buckets.first buckets.shift edges) (length edges) buckets.starts.items (length edges)

-- edges with their buckets
pub record KeepsEdges (edges : List ℤ) (kept : Buckets) : Type 0 where
  pub axis : IsAxis edges
  pub buckets : KeepsBuckets edges kept
