use Rattle.lemmas.proofs.{◌+◌, ◌-◌, ap, ◌∙◌, arith}
use Rattle.slot_words.specs.{AreClaimed, hand_of, seat_seen}
use Rattle.slot_words.proofs.Steps.{again, opens}
use Rattle.slot_words.proofs.Hands.{deals, many_left, next_dealt, one_dealt}
use Rattle.slot_words.proofs.claims.Claims.new.Goals as goal

pub of_words-requires : goal.of_words-requires
of_words-requires c = opens (c.args.clusters, c.args.slots) c.ranges.clusters.fits c.ranges.slots.fits

pub split_seat-seat-requires : goal.split_seat-seat-requires
split_seat-seat-requires c =
    let key = c.in_ok-table.table.shared.key in
    let left = many_left _ _ _ _ _ _ _ _ c.loop-slot.invariant in
    (c.loop-slot.invariant.of, omega (arith, c.in_ok-table.ensures), deals (AreClaimed key) (again key) c.loop-slot.first.id c.loop-slot.first.me.0 (omega arith))

pub loop-slot-preserved : goal.loop-slot-preserved
loop-slot-preserved c =
    let i = c.loop-slot.invariant in
    let s = c.split_seat-seat.ensures in
    let one = ap (λ m. m.0) s.4 ∙ one_dealt _ _ _ _ _ _ _ _ i (omega arith) in
    next_dealt _ _ _ _ _ _ _ _ i (c.args.slots - (c.loop-slot.slot + 1)) _ _ _ _ (omega arith) s.0 s.2 c.in_ok-push.ensures.ok (λ k. seat_seen ((s.3 ∙ i.of) k) c.loop-slot.slot (hand_of (one k)))
