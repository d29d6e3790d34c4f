-- What clusters are to give.
use Rattle.std.specs.Prelude.{◌≡◌, ◌<◌, ℕ, List, Option, Some, None, length, slice_get}
use Rattle.rdf_values.specs.{AreInEntryOrder, Fault, times}
use Rattle.snapshot_pieces.specs.declared.piece.TextPiece.{TextPiece}

-- for each cluster its first fault or none, and the records of its entries
pub record SnapFacts : Type 0 where
  pub faults : List (Option Fault)
  pub texts : List (List ℕ)

-- of so many clusters, of which a lower one's fault has a lower entry
pub record AreFacts (clusters : ℕ) (facts : SnapFacts) : Type 0 where
  pub faults : length facts.faults ≡ clusters
  pub texts : length facts.texts ≡ clusters
  pub order : AreInEntryOrder facts.faults

-- the piece has its cluster's records
abbrev pub IsPieceOf : SnapFacts → TextPiece → Type 0
IsPieceOf facts p = slice_get facts.texts p.cluster ≡ Some p.text

-- none of the clusters has a fault
abbrev pub AreSound : List (Option Fault) → List ℕ → Type 0
AreSound faults clusters = (c : ℕ) → 0 < times c clusters → slice_get faults c ≡ Some None
