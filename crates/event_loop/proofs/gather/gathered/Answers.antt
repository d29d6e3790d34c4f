use Rattle.lemmas.proofs.{List, ap, sym, ◌∙◌, subst, arith, All, All-map}
use Rattle.rdf_values.specs.{least_fault}
use Rattle.slot_words.specs.Seats.{IsOf}
use Rattle.event_loop.specs.{end_faults, HasMemory, seat_in}
use Rattle.event_loop.specs.declared.workers.FinishedSlot.{FinishedSlot}
use Rattle.event_loop.proofs.Ended.{first_is, have_finished}
use Rattle.event_loop.proofs.gather.gathered.Goals as goal

pub finish-requires-clause-of : goal.finish-requires-clause-of
finish-requires-clause-of c = subst (All (IsOf c.args.claims)) (sym c.in_ok-seats.ensures.seats) (All-map (IsOf c.args.claims) seat_in c.args.finished.items c.requires.of)

pub returns-in-Some : goal.returns-in-Some
returns-in-Some c = λ b job facts ran.
    let seats = c.in_ok-seats.ensures.seats in
    first_is c.args.claims b job c.finish.result.bar c.args.finished.items c.finish.result.word c.in_ok-least.least facts ran
    (omega (arith, c.requires.some, c.args.finished.ok.0)) (subst (All HasMemory) c.as_slice.ensures.value c.in_ok-least.ensures.memory)
    (c.in_ok-least.ensures.least ∙ ap (λ (fs : List FinishedSlot). least_fault (end_faults fs)) c.as_slice.ensures.value)
    (rw seats at c.finish.ensures.drawn) (rw seats at c.finish.ensures.bar) (rw seats at c.finish.ensures.passed) (rw seats at c.finish.ensures.kept) ∙ c.in-Some.is

pub returns-in-None : goal.returns-in-None
returns-in-None c = λ b job facts ran.
    let seats = c.in_ok-seats.ensures.seats in
    have_finished c.args.claims b job c.finish.result.bar c.args.finished.items c.finish.result.word c.in_ok-least.least facts ran
    (omega (arith, c.requires.some, c.args.finished.ok.0)) (subst (All HasMemory) c.as_slice.ensures.value c.in_ok-least.ensures.memory)
    (c.in_ok-least.ensures.least ∙ ap (λ (fs : List FinishedSlot). least_fault (end_faults fs)) c.as_slice.ensures.value)
    (rw seats at c.finish.ensures.drawn) (rw seats at c.finish.ensures.bar) (rw seats at c.finish.ensures.passed) (rw seats at c.finish.ensures.kept)
    c.in-None.is c.args.claims.slots (omega (arith, c.requires.many, c.args.finished.ok.0)) c.in_ok-seats.made c.in_ok-seats.ensures.pieces c.in_ok-seats.ensures.shares
