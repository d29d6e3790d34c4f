use Rattle.lemmas.proofs.{◌∙◌, ◌++◌, List, Some, ap, arith, rules, subst, sym}
use Rattle.std.proofs.lemmas.Result.{on_ok_weaker}
use Rattle.block_passes.specs.{IsReadyInTurn, IsSelectedInTurn, KeptPlaces as KeptView, Step}
use Rattle.block_passes.proofs.Selecting.{block_selected, none_there, narrowed_selected, filter_selected}
use Rattle.block_passes.proofs.Serving.{leaves_then}
use Rattle.block_passes.proofs.select.+select_step.Goals as goal

pub returns-then-narrow-clause-selected : goal.returns-then-narrow-clause-selected
returns-then-narrow-clause-selected g t c = λ p.
    let was = c.narrow.ensures.made c.if-narrow.true in
    narrowed_selected c.args.at.now p c.args.work.now c.args.kept.now c.args.step c.requires.step (c.requires.ready p) c.index-kept-step.result c.narrow.new.self was.0 was.1 was.2

pub returns-in-Block-clause-selected : goal.returns-in-Block-clause-selected
returns-in-Block-clause-selected g t c = λ p.
    block_selected c.args.at.now p c.args.work.now c.args.kept.now c.args.step c.requires.step (c.requires.ready p) c.index-kept-step.result c.narrow.new.self (c.narrow.ensures.none c.if-narrow.false)
    (c.step.ensures ∙ ap Some c.in-Block.is) c.select_first.new.self c.select_first.ensures.limit c.select_first.ensures.places

pub select_step-requires : goal.select_step-requires
select_step-requires g t c κs within =
    let plan = c.requires.turn.plan in
    let same = none_there c.args.at.now plan c.args.work.now c.args.kept.now c.args.step c.requires.step (c.requires.ready plan) c.index-kept-step.result c.narrow.new.self (c.narrow.ensures.none c.if-narrow.false) in
    let before = (plan.steps.each c.args.step (Step.Filter c.in-Filter.parent c.in-Filter.site c.in-Filter.under) (c.step.ensures ∙ ap Some c.in-Filter.is)).before in
    let small = c.requires.step in
    (omega (arith, before, c.decreases), (search rules, (c.requires.turn, (c.requires.can, (omega (arith, before, small), λ p. subst (λ (ks : List KeptView). IsReadyInTurn c.args.at.now p.chains c.args.work.now.found.limit c.args.work.now.lanes.items ks) (sym same) (c.requires.ready p))))))

pub returns-in_ok-select_step-in-Filter-clause-leaves : goal.returns-in_ok-select_step-in-Filter-clause-leaves
returns-in_ok-select_step-in-Filter-clause-leaves g t c = leaves_then _ _ _ _ _ _ _ c.select_step.ensures.leaves c.next_places.ensures.leaves

pub returns-in_ok-select_step-in-Filter-clause-selected : goal.returns-in_ok-select_step-in-Filter-clause-selected
returns-in_ok-select_step-in-Filter-clause-selected g t c = λ p.
    let filter = p.steps.each c.args.step (Step.Filter c.in-Filter.parent c.in-Filter.site c.in-Filter.under) (c.step.ensures ∙ ap Some c.in-Filter.is) in
    let same = none_there c.args.at.now p c.args.work.now c.args.kept.now c.args.step c.requires.step (c.requires.ready p) c.index-kept-step.result c.narrow.new.self (c.narrow.ensures.none c.if-narrow.false) in
    let above =
    subst
    (λ (ks : List KeptView). IsSelectedInTurn c.args.at.now p.chains c.in-Filter.parent c.select_step.new.work.lanes.items ks c.select_step.new.kept c.args.work.now.found c.select_step.new.work.found)
    same (c.in_ok-select_step-in-Filter.ensures.selected p) in
    on_ok_weaker c.next_places.result
    (filter_selected _ c.args.at.now.first c.args.at.now.count p.chains c.args.at.now.pass c.args.step c.in-Filter.parent c.in-Filter.site c.in-Filter.under filter
    c.select_step.new.work.lanes.items c.next_places.new.work.lanes.items c.args.kept.now c.select_step.new.kept _ (c.split_at_mut-above.result.0.now ++ c.next_places.new.own)
    c.args.work.now.found c.select_step.new.work.found c.next_places.new.work.found (sym c.split_at_mut-above.ensures.value) above)
    (c.next_places.ensures.selected p)

pub returns-in_err-select_step-in-Filter-clause-plain : goal.returns-in_err-select_step-in-Filter-clause-plain
returns-in_err-select_step-in-Filter-clause-plain g t c = λ loop. absurd (c.in_err-select_step-in-Filter.ensures.plain loop)
