-- How a slot stops.
use Rattle.std.specs.Prelude.{◌≡◌, ◌⊎◌, ⊤, ℕ, List, [], ◌∷◌, ◌++◌, Some, None, All, map, slice_get}
use Rattle.rdf_values.specs.{Fault}
use Rattle.slot_words.specs.{ClaimsSeen, MetBar, RanOut, SeatSeen}
use Rattle.slot_words.specs.Seats as claims
use Rattle.snapshot_pieces.specs.Facts.{AreSound, IsPieceOf, SnapFacts}
use Rattle.snapshot_pieces.specs.declared.finished.End.{End}
use Rattle.snapshot_pieces.specs.declared.finished.End.TheVariants.{Over, Faulted, NoMemory}
use Rattle.snapshot_pieces.specs.declared.finished.Finished.{Finished}
use Rattle.snapshot_pieces.specs.declared.piece.TextPiece.{TextPiece}

-- the clusters of pieces
abbrev pub clusters_of : List TextPiece → List ℕ
clusters_of ps = map (λ (p : TextPiece). p.cluster) ps

-- each piece has the records of its cluster, which has no fault
pub record AreMade (facts : SnapFacts) (ps : List TextPiece) : Type 0 where
  pub each : All (IsPieceOf facts) ps
  pub sound : AreSound facts.faults (clusters_of ps)

-- the slot stopped at the last cluster that it drew, which has that fault; all others are sound; and the bar was lowered to the last
pub record MetFault (facts : SnapFacts) (seat : SeatSeen) (fault : Fault) : Type 0 where
  pub done : List ℕ
  pub last : ℕ
  pub others : seat.drawn ≡ done ++ last ∷ []
  pub sound : AreSound facts.faults done
  pub its_fault : slice_get facts.faults last ≡ Some (Some fault)
  pub lowered : seat.lowered ≡ Some last

-- how the slot stopped
abbrev pub Stopped : ClaimsSeen → SnapFacts → End → SeatSeen → Type 0
Stopped c facts (Over pieces) seat = AreMade facts pieces × (RanOut c seat (clusters_of pieces) ⊎ MetBar c seat (clusters_of pieces)) × (seat.lowered ≡ None)
Stopped c facts (Faulted f) seat = MetFault facts seat f
Stopped c facts NoMemory seat = ⊤

-- the slot stopped in that way
pub record HasStopped (c : ClaimsSeen) (facts : SnapFacts) (f : Finished) : Type 0 where
  pub seat_of : claims.IsOf c f.seat
  pub stopped : Stopped c facts f.end f.seat
