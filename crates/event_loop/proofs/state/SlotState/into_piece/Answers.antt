use Rattle.lemmas.proofs.{ap, sym, subst}
use Rattle.cluster_tally.specs.{at_begin, Holds, TallyView}
use Rattle.event_loop.specs.{SlotView}
use Rattle.event_loop.proofs.Ended.{one_above}
use Rattle.event_loop.proofs.state.SlotState.into_piece.Goals as goal

pub returns-clause-stands : goal.returns-clause-stands
returns-clause-stands c = λ job h.
    let one = one_above c.args.self.done in
    c.into_piece.ensures.stands job.facts job.watched c.args.self.done one.0
    (subst (λ (t : TallyView). Holds job.facts job.watched (at_begin c.args.self.done one.0) t) (sym (ap (λ (s : SlotView). s.tally) c.self.view_is)) (h.holds c.requires one.0 one.1))

pub returns-clause-trails : goal.returns-clause-trails
returns-clause-trails c = λ job h.
    let one = one_above c.args.self.done in
    c.into_piece.ensures.trails job.facts job.watched c.args.self.done one.0
    (subst (λ (t : TallyView). Holds job.facts job.watched (at_begin c.args.self.done one.0) t) (sym (ap (λ (s : SlotView). s.tally) c.self.view_is)) (h.holds c.requires one.0 one.1))
