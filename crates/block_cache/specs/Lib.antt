pub mod Values
pub mod Blocks
pub mod Fills
pub mod ForSites
pub mod Lanes
pub mod OneProof
-- what other crates name of these
pub use Values.{AreWrittenMarks, IsBare, marked_to, marks_of, MarksView, fault_at, fault_of, IsLeastFault, IsNotBelow, lesser_fault, AreKept, AreThere, AreWritten, cells_in, HasNumber, HasNumbered, HaveCome, IsNumberOf, IsScalar, IsScalarAnswer, IsTurned, IsWritten, value_for}
pub use Blocks.{AreReady, cells_at, HasColumn, HasLane, HasSource, held_at, held_value, IsLaneSet, IsTelling, IsTriable}
pub use Fills.{AreSiteKinds, begun_at, begun_count, below_fault, CanFill, fault_before, fault_over, holds_at, is_below, IsFilledTo, IsGrownOver, IsLoaded, IsOnlyCalled, IsPaidOver, IsPassedOver, IsRankedBelow, IsSameAt, IsSettled, IsSpentOver, lane_begun, lane_holds, site_fault, first_read, first_read_in, found_or, IsFaultOf, IsSettledTo, IsWaiting, left_to_begin, need_at, noted_at, noted_in}
pub use ForSites.{CanFillFor, CanTryFor, IfPlain, IsAttemptedFor, IsBegunFor, IsBrokenOffFor, IsFilledFor, IsLeadFor, IsPaidFor, IsPassedFor, IsResumedFor, IsSettledFor, IsSpentFor, IsTriedFor, IsUnderwayFor, own_key, AreReadOver, AreReadyOver, block_graph, block_job, CallsFitOver, FitAt, IsReadOver, IsWholeOver, key_over, outcome_over, source_over}
pub use Lanes.{AreUnknown, HaveRoom, is_held, is_tried, IsBegun, IsBegunAt, IsEvaluated, IsLane, IsSameLane, IsUnknown, kinds_of, LaneView, room_of, rooms_of, size_for, tried_count, value_of}
pub use OneProof.{fits-prop, row-prop}
pub use declared.faults.PlaceFault.{PlaceFault}
