pub mod Trails
pub mod Claiming
pub mod Seats
pub mod Noting
pub mod Shares
-- what other crates name of these
pub use Trails.{AreLinesSoFar, AreNoted, chain_of, HavePartialsOver, noted_before, noted_sets, run_in_front, set_before, added, added_in, AreAlone, AreOf, AsManyAsTheBound, chosen, cluster_in, HaveNumbers, HigherBoundKeeps, is_between, kept, numbered, piece_in, AreTrails, HaveAllTrails, trails_at, WatchedPlace}
pub use Claiming.{AreClaimed, Claimed, IsBarred, IsClaimed, IsHand, IsOver, Looked, Lowered}
pub use Seats.{first_alone, hands_in, others, ClaimsSeen, empty_hand, fresh_seat, fresh_seats, hand_of, IsLeast, IsPassed, IsReady, kept_count, last_of, look, lower, MetBar, RanOut, seat_seen, SeatSeen}
pub use Noting.{AreNotings, IsNoted, Noted}
pub use Shares.{BookSeen, fresh_share, fresh_shares, hand_with, many_in, ShareSeen}
