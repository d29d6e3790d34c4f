-- Counts of filters.
use Rattle.std.specs.Prelude.{ℕ, ◌<◌, ◌≤◌, ◌+◌, ◌^◌, List, length, map, slice_index_or}
use Rattle.std.specs.List.{zip}
use Rattle.loop_pieces.specs.declared.flow.Counts.{Counts}

abbrev pub nothing : Counts
nothing = record { all = 0; pass = 0 }

-- the counts of both
abbrev pub both : Counts → Counts → Counts
both a b = record { all = a.all + b.all; pass = a.pass + b.pass }

-- filter by filter
abbrev pub added : List Counts → List Counts → List Counts
added xs ys = map (λ p. both p.0 p.1) (zip xs ys)

-- what all counts keep
pub record AreCounts (c : Counts) : Type 0 where
  pub few : c.all ≤ 2 ^ 32
  pub pass : c.pass ≤ c.all

-- both together have noted at most 2^32 entries of each filter
abbrev pub HaveRoom : List Counts → List Counts → Type 0
HaveRoom a b = (i : ℕ) → i < length a → (slice_index_or a i nothing).all + (slice_index_or b i nothing).all ≤ 2 ^ 32
