use Rattle.lemmas.proofs.{[], ◌∷◌, length, length-append, ap, refl, arith}
use Rattle.event_loop.proofs.Ended.{next_seated}
use Rattle.event_loop.proofs.one_loop.seated.Goals as goal

pub loop-seat-preserved : goal.loop-seat-preserved
loop-seat-preserved c = record {
  many =
      omega (
        arith,
        ap length c.in-Some.ensures.items,
        ap length c.in_ok-push.ensures.items,
        c.loop-seat.slots.ok.0,
        c.push.new.self.ok.0,
        c.loop-seat.invariant.many,
        length-append c.pop.new.self.items (c.in-Some.seat ∷ []),
        length-append c.loop-seat.slots.items (record { seat = c.in-Some.seat; share = c.pop-share.result } ∷ []),
      );
  seated = λ shared ready blank.
      next_seated shared c.loop-seat.seats.items c.pop.new.self.items c.loop-seat.shares.items c.pop-share.new.self.items c.loop-seat.slots.items c.push.new.self.items
      c.in-Some.seat c.pop-share.result (record { seat = c.in-Some.seat; share = c.pop-share.result })
      (c.loop-seat.invariant.seated shared ready blank) c.in-Some.ensures.items c.pop-share.ensures.items
      (λ none. grind (arith, none, c.pop-share.ensures.cases, c.loop-seat.shares.ok.0)) c.in_ok-push.ensures.items refl refl;
}
