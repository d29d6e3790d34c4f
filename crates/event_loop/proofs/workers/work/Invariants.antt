use Rattle.lemmas.proofs.{◌≡◌, ◌-◌, None, length}
use Rattle.slot_words.specs.Seats as claims
use Rattle.loop_keys.specs.{job_of}
use Rattle.event_loop.specs.{AreSound, HasNoted, IsSlotOf, job_facts, SlotPhase}
use Rattle.event_loop.proofs.workers.work.Given as goal

abbrev pub invariant-loop-cluster : goal.invariant-loop-cluster
invariant-loop-cluster g l = record {
  seat_of : claims.IsOf l.shared.claims l.slot.seat;
  unkept : l.slot.seat.kept ≡ None;
  unpassed : l.slot.seat.passed ≡ None;
  unlowered : l.slot.seat.lowered ≡ None;
  slot : IsSlotOf (job_facts (job_of l.job)) l.state;
  noted : HasNoted l.shared.book (length l.state.done) l.slot.share;
  sound : AreSound (job_facts (job_of l.job)).faults l.state.done;
  done : l.state.done ≡ l.slot.seat.drawn;
  going : l.state.phase ≡ SlotPhase.Going;
}

abbrev pub decreases-loop-cluster : goal.decreases-loop-cluster
decreases-loop-cluster g l = l.shared.claims.clusters - length l.slot.seat.drawn
