-- What slots tell together.
use Rattle.std.specs.Prelude.{◌≡◌, ⊤, ◌<◌, ℕ, List, [], ◌∷◌, None, Some, All, flat_map, length}
use Rattle.rdf_values.specs.{Fault, first_in, times}
use Rattle.slot_words.specs.{SeatSeen}
use Rattle.snapshot_pieces.specs.Facts.{IsPieceOf, SnapFacts}
use Rattle.snapshot_pieces.specs.Stopping.{clusters_of}
use Rattle.snapshot_pieces.specs.declared.finished.End.{End}
use Rattle.snapshot_pieces.specs.declared.finished.End.TheVariants.{Over, Faulted, NoMemory}
use Rattle.snapshot_pieces.specs.declared.finished.Finished.{Finished}
use Rattle.snapshot_pieces.specs.declared.gather.SnapshotOutcome.{SnapshotOutcome}
use Rattle.snapshot_pieces.specs.declared.piece.TextPiece.{TextPiece}

-- the fault with which a slot stopped
abbrev pub fault_of : End → List Fault
fault_of (Over pieces) = []
fault_of (Faulted fault) = fault ∷ []
fault_of NoMemory = []

-- the faults with which slots stopped
abbrev pub end_faults : List Finished → List Fault
end_faults fs = flat_map (λ (f : Finished). fault_of f.end) fs

-- no want of memory stopped it
abbrev pub IsServed : End → Type 0
IsServed NoMemory = ⊥
IsServed e = ⊤

abbrev pub HasMemory : Finished → Type 0
HasMemory f = IsServed f.end

-- the seat of a slot
abbrev pub seat_in : Finished → SeatSeen
seat_in f = f.seat

-- the pieces that a slot made, where it is over
abbrev pub pieces_of : End → List TextPiece
pieces_of (Over pieces) = pieces
pieces_of (Faulted fault) = []
pieces_of NoMemory = []

abbrev pub pieces_in : Finished → List TextPiece
pieces_in f = pieces_of f.end

-- each piece has its cluster's records, and each cluster has a piece
pub record HasAll (facts : SnapFacts) (ps : List TextPiece) : Type 0 where
  pub each : All (IsPieceOf facts) ps
  pub all : (k : ℕ) → k < length facts.texts → 0 < times k (clusters_of ps)

-- no cluster has a fault, and all have pieces; or the fault is that of the first cluster that has one
abbrev pub IsOutcome : SnapFacts → SnapshotOutcome → Type 0
IsOutcome facts (SnapshotOutcome.Made pieces) = (first_in facts.faults ≡ None) × HasAll facts pieces
IsOutcome facts (SnapshotOutcome.Faulted fault) = first_in facts.faults ≡ Some fault
