use Rattle.lemmas.proofs.{Some, ap, arith, refl, ◌∙◌}
use Rattle.std.proofs.lemmas.List.{with_items_is}
use Rattle.expr_lanes.specs.{is_in}
use Rattle.block_cache.specs.{site_fault}
use Rattle.block_passes.specs.{turn_job}
use Rattle.block_passes.proofs.PlanSteps.{fault_few}
use Rattle.block_passes.proofs.Serving.{filled_over}
use Rattle.block_passes.proofs.inputs.serve_site.Goals as goal

pub note-requires : goal.note-requires
note-requires g c =
    fault_few (site_fault (turn_job c.args.at.now) c.args.at.now.first c.args.under c.args.site) c.args.to.now.places c.args.work.now.found.limit c.args.at.now.count c.args.at.now.first c.as_slice-rising.ensures.rising c.requires.inside c.requires.known.limit c.requires.known.turn.few
    c.in_ok-fault.fault c.in_ok-fault.ensures.filled.fault

pub returns-clause-served : goal.returns-clause-served
returns-clause-served g c =
    let auto = c.fill_led.auto.lanes in
    let len = c.deref_mut.ensures.len in
    rw (with_items_is c.args.work.now.lanes c.fill_led.new.lanes (omega (arith, auto, len)))
    (filled_over (site_fault (turn_job c.args.at.now) c.args.at.now.first c.args.under c.args.site) (turn_job c.args.at.now) c.args.at.now.first c.args.at.now.count c.args.under c.args.site c.args.at.now.pass c.args.to.now.places c.deref_mut.result.now c.fill_led.new.lanes _ _ c.args.work.now.found c.note.new.self c.in_ok-fault.fault
    c.in_ok-fault.ensures.spent c.in_ok-fault.ensures.filled.fault (λ q i. c.in_ok-fault.ensures.settled q (ap (is_in q) c.in_ok-fault.ensures.filled.left_is ∙ i)) c.as_slice-rising.ensures.rising c.requires.inside
    (rw c.deref_mut.ensures.value c.requires.known.settled) c.note.ensures c.in_ok-fault.ensures.filled.ready (record { limit = Some c.note.new.self.limit; places = c.fill_led.new.selection }) refl c.in_ok-fault.ensures.filled.left_is)

pub returns-in_err-fault-clause-plain : goal.returns-in_err-fault-clause-plain
returns-in_err-fault-clause-plain g c = λ used p u. absurd (c.in_err-fault.ensures.plain used p u)
