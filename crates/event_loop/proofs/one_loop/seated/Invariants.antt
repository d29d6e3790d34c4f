use Rattle.lemmas.proofs.{◌≡◌, ◌+◌, length, vec_len}
use Rattle.std.specs.List.{All}
use Rattle.event_loop.specs.{AreBlank}
use Rattle.event_loop.specs.declared.workers.Shared.{Shared}
use Rattle.event_loop.proofs.Ended.{AreSeated}
use Rattle.event_loop.proofs.one_loop.seated.Given as goal
use Rattle.slot_words.specs.{IsReady}

abbrev pub invariant-loop-seat : goal.invariant-loop-seat
invariant-loop-seat l = record {
  many : vec_len l.slots + length l.seats.items ≡ length l.fn.seats;
  seated : (shared : Shared) → All (IsReady shared.claims) l.fn.seats → AreBlank shared.book (length l.fn.seats) l.fn.shares → AreSeated shared l.seats.items l.shares.items l.slots.items;
}

abbrev pub decreases-loop-seat : goal.decreases-loop-seat
decreases-loop-seat l = length l.seats.items
