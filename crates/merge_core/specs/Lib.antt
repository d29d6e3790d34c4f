pub mod MachineLaws
pub mod Slots
-- what other crates name of these
pub use MachineLaws.{EachIsDrawnOnce, FirstFaultIsTold}
pub use Slots.{Stand, fresh_slot, Refused, seen_machine, seen_phase, seen_slot, seen_slots, Steps}
pub use declared.piece.Noted.{Noted}
