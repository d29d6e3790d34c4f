use Rattle.lemmas.proofs.{◌∙◌, List, ℕ, ap, arith, refl, subst, sym, Some}
use Rattle.std.proofs.lemmas.List.{with_items_is}
use Rattle.expr_lanes.specs.{is_in}
use Rattle.block_cache.specs.{site_fault}
use Rattle.block_passes.specs.{IsFilteredTo, turn_job}
use Rattle.block_passes.proofs.PlanSteps.{fault_few}
use Rattle.block_passes.proofs.Selecting.{filtered_to}
use Rattle.block_passes.proofs.select.filter_places.Goals as goal

pub note-requires : goal.note-requires
note-requires g c =
    fault_few (site_fault (turn_job c.args.at.now) c.args.at.now.first c.args.filter.under c.args.filter.site) c.copy_from.new.self c.args.work.now.found.limit c.args.at.now.count c.args.at.now.first c.as_slice-rising.ensures.rising (λ p i. c.requires.inside p (sym (ap (is_in p) c.copy_from.ensures) ∙ i)) c.requires.known.limit c.requires.known.turn.few
    c.in_ok-fault.fault c.in_ok-fault.ensures.passed.fault

pub returns-clause-filtered : goal.returns-clause-filtered
returns-clause-filtered g c =
    let auto = c.pass_filter.auto.lanes in
    let len = c.deref_mut.ensures.len in
    rw (with_items_is c.args.work.now.lanes c.pass_filter.new.lanes (omega (arith, auto, len)))
    (subst (λ (sel : List ℕ). IsFilteredTo (turn_job c.args.at.now) c.args.at.now.first c.args.at.now.count c.args.filter.under c.args.filter.site c.args.at.now.pass sel (record { limit = Some c.note.new.self.limit; places = c.pass_filter.new.selection }) c.pass_filter.new.lanes c.args.work.now.found c.note.new.self) c.copy_from.ensures
    (filtered_to (turn_job c.args.at.now) c.args.at.now.first c.args.at.now.count c.args.filter.under c.args.filter.site c.args.at.now.pass c.copy_from.new.self c.pass_filter.new.selection c.deref_mut.result.now c.pass_filter.new.lanes _ _ c.args.work.now.found c.note.new.self c.in_ok-fault.fault
    c.in_ok-fault.ensures.spent c.in_ok-fault.ensures.passed c.as_slice-rising.ensures.rising (λ p i. c.requires.inside p (sym (ap (is_in p) c.copy_from.ensures) ∙ i))
    (rw c.deref_mut.ensures.value c.requires.known.settled) c.note.ensures (record { limit = Some c.note.new.self.limit; places = c.pass_filter.new.selection }) refl refl))

pub returns-in_err-fault-clause-plain : goal.returns-in_err-fault-clause-plain
returns-in_err-fault-clause-plain g c = λ used p u. absurd (c.in_err-fault.ensures.plain used p u)
