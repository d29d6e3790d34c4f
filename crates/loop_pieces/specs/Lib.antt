pub mod Flows
pub mod LoopPieces
pub mod PieceLaws
pub mod Trails
pub mod Whole
-- what other crates name of these
pub use Flows.{AreCounts, both, HaveRoom, nothing}
pub use LoopPieces.{AreMerged, CanMerge, cluster_items, counts_at, entries_over, fed_over, IsMerged, IsPass, StandsFor}
pub use PieceLaws.{JoinsFromEitherSide, JoinsInEitherOrder, NoClusterIsNeutral, PiecesOfOneSetAgree, WatchPiecesOfOneSetAgree}
pub use Trails.{ArePartialLines, HavePartials, HaveTrails, IsPartialLine, IsTrail, place_if_watched, span_of, watch_facts, watched_from, watched_places, CanAdd, IsOfKind, watch_filled, WatchStandsFor}
pub use Whole.{AllClustersAreTheTable, begin_of, cluster_fault, cluster_faults, counts_of, FirstClusterHasFirstFault, LowerClustersFaultFirst, PieceHoldsCounts, PieceHoldsResults, WatchPieceIsPartialResult}
pub use declared.loop_piece.FilledResult.{FilledResult}
pub use declared.loop_piece.PartialLine.{PartialLine}
pub use declared.flow.Counts.{Counts}
pub use declared.loop_piece.LoopPiece.{LoopPiece}
pub use declared.watch_piece.WatchPiece.{WatchPiece}
