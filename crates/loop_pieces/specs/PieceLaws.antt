-- Laws of pieces and of their joining, by the sets of clusters for which they stand.
use Rattle.std.specs.Prelude.{◌≡◌, ℕ, List, [], ◌∷◌, map}
use Rattle.std.specs.List.Sorted.{IsStrictlyIncreasing}
use Rattle.rdf_values.specs.{Filled, IsUnion}
use Rattle.rdf_model.specs.declared.loop_facts.LoopFacts.{LoopFacts}
use Rattle.actions.specs.{Accumulator}
use Rattle.loop_pieces.specs.LoopPieces.{StandsFor}
use Rattle.loop_pieces.specs.Trails.{WatchStandsFor}
use Rattle.loop_pieces.specs.declared.loop_piece.LoopPiece.{LoopPiece}
use Rattle.loop_pieces.specs.declared.watch_piece.WatchFacts.{WatchFacts}
use Rattle.loop_pieces.specs.declared.watch_piece.WatchPiece.{WatchPiece}

-- of pieces that stand for sets
module _ {P : Type 0} (stands : List ℕ → P → Type 0) where
  -- the last is what joining makes of the first two
  abbrev pub IsJoin : P → P → P → Type 0
  IsJoin p q both = (mine theirs all : List ℕ) → stands mine p → stands theirs q → IsUnion (mine ∷ theirs ∷ []) all → stands all both

  -- joined with a piece of no cluster, from either side, a piece stands for its set
  abbrev pub NoClusterIsNeutral : Type 0
  NoClusterIsNeutral =
      (set : List ℕ) (p none right left : P)
      → IsStrictlyIncreasing set → stands set p → stands [] none → IsJoin p none right → IsJoin none p left → stands set right × stands set left

  -- two pieces stand for their union whichever takes in the other
  abbrev pub JoinsInEitherOrder : Type 0
  JoinsInEitherOrder =
      (mine theirs all : List ℕ) (p q pq qp : P)
      → stands mine p → stands theirs q → IsUnion (mine ∷ theirs ∷ []) all → IsJoin p q pq → IsJoin q p qp → stands all pq × stands all qp

  -- three pieces stand for their union whether joined from the left or from the right
  abbrev pub JoinsFromEitherSide : Type 0
  JoinsFromEitherSide =
      (a b c ab all : List ℕ) (p q r pq left qr right : P)
      → stands a p → stands b q → stands c r → IsUnion (a ∷ b ∷ []) ab → IsUnion (ab ∷ c ∷ []) all
      → IsJoin p q pq → IsJoin pq r left → IsJoin q r qr → IsJoin p qr right → stands all left × stands all right

-- what an accumulator shows
abbrev pub results_in : LoopPiece → List Filled
results_in piece = map (λ (acc : Accumulator). acc.filled) piece.accs.items

-- two pieces that stand for one set of clusters have the same results and counts
abbrev pub PiecesOfOneSetAgree : Type 0
PiecesOfOneSetAgree =
    (f : LoopFacts) (set : List ℕ) (p q : LoopPiece) → StandsFor f set p → StandsFor f set q → (results_in p ≡ results_in q) × (p.flow ≡ q.flow)

-- and so do two of a watched result
abbrev pub WatchPiecesOfOneSetAgree : Type 0
WatchPiecesOfOneSetAgree = (w : WatchFacts) (set : List ℕ) (p q : WatchPiece) → WatchStandsFor w set p → WatchStandsFor w set q → p ≡ q
