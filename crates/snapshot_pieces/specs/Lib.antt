pub mod Facts
pub mod Gathered
pub mod Stopping
-- what other crates name of these
pub use Facts.{AreFacts, IsPieceOf, SnapFacts}
pub use Gathered.{end_faults, fault_of, HasAll, HasMemory, IsOutcome, IsServed, pieces_in, pieces_of, seat_in}
pub use Stopping.{AreMade, clusters_of, HasStopped, Stopped}
pub use declared.finished.Finished.{Finished}
pub use declared.gather.SnapshotOutcome.{SnapshotOutcome}
pub use declared.piece.TextPiece.{TextPiece}
