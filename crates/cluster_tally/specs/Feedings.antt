-- What a tally is told, what it is when nothing was told, and what the end of a cluster makes of the watched results.
use Rattle.std.specs.Prelude.{◌≡◌, ℕ, List, [], ◌∷◌, ◌++◌, Option, None, Some, length, map, slice_get, slice_index_or, slice_set}
use Rattle.rdf_values.specs.results.Fold as fold
use Rattle.rdf_values.specs.{ActionKind, fold_items}
use Rattle.rdf_model.specs.{span_rows}
use Rattle.rdf_model.specs.declared.loop_facts.LoopFacts.{LoopFacts}
use Rattle.actions.specs.{Accumulator, kept_of}
use Rattle.merge_core.specs.{Noted}
use Rattle.loop_pieces.specs.{WatchPiece}
use Rattle.loop_pieces.specs.declared.watch_piece.WatchPiece.TheVariants.{Count, Sum, Least, Greatest}
use Rattle.cluster_tally.specs.Tallies.{Stage, CanWatch, TallyView, places_there}

-- to which nothing was fed
abbrev pub fresh_acc : ActionKind → Accumulator
fresh_acc k = record { kind = k; entries = 0; last = 0; filled = fold_items k []; kept = kept_of k [] }

-- the tally has a fresh accumulator for each of the kinds, and of its own for those at the watched places, with an empty trail
pub record IsFresh (kinds : List ActionKind) (watched : List ℕ) (t : TallyView) : Type 0 where
  pub accs : t.accs ≡ map fresh_acc kinds
  pub many : length t.watched ≡ length kinds
  pub places : places_there 0 t.watched ≡ watched
  pub alone : (i : ℕ) (acc : Accumulator) → slice_get t.watched i ≡ Some (Some acc) → (k : ActionKind) × (slice_get kinds i ≡ Some k) × CanWatch k × (acc ≡ fresh_acc k)
  pub trails : t.trails ≡ map (λ p. []) watched

-- all entries of the cluster are taken in
pub record IsAtEnd (f : LoopFacts) (s : Stage) (cluster : ℕ) : Type 0 where
  pub at_cluster : s.cluster ≡ cluster
  pub entries : s.entries ≡ length (span_rows f.spreads (slice_get f.ranges cluster))
  pub passes : s.passes ≡ 0
  pub filters : s.filters ≡ 0

-- ---- the end of a cluster

-- what an accumulator of a kind that can be watched holds
abbrev pub piece_for : ActionKind → fold.Filled → WatchPiece
piece_for ActionKind.Count (fold.Count n) = Count n
piece_for (ActionKind.Sum c) (fold.Sum z) = Sum z
piece_for (ActionKind.Min c) (fold.Extreme z) = Least z
piece_for (ActionKind.Max c) (fold.Extreme z) = Greatest z
piece_for k x = Count 0

-- the piece of a cluster
abbrev pub note_of : ℕ → Accumulator → Noted WatchPiece
note_of cluster acc = record { cluster = cluster; piece = piece_for acc.kind acc.filled }

-- an accumulator begun anew
abbrev pub renewed : Option Accumulator → Option Accumulator
renewed None = None
renewed (Some acc) = Some (fresh_acc acc.kind)

-- 1 where there is one
abbrev pub times_there : Option Accumulator → ℕ
times_there None = 0
times_there (Some acc) = 1

-- what is held, if it is there, is noted in the trail of this number
abbrev pub noted_at : ℕ → Option Accumulator → List (List (Noted WatchPiece)) → ℕ → List (List (Noted WatchPiece))
noted_at cluster None trails n = trails
noted_at cluster (Some acc) trails n = slice_set trails n (slice_index_or trails n [] ++ note_of cluster acc ∷ [])

-- each accumulator that is there is noted in the next trail
abbrev pub noted_all : ℕ → List (Option Accumulator) → List (List (Noted WatchPiece)) → List (List (Noted WatchPiece))
noted_all cluster [] trails = trails
noted_all cluster (None ∷ accs) trails = noted_all cluster accs trails
noted_all cluster (Some acc ∷ accs) [] = []
noted_all cluster (Some acc ∷ accs) (trail ∷ trails) = (trail ++ note_of cluster acc ∷ []) ∷ noted_all cluster accs trails
