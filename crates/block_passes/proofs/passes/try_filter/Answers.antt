use Rattle.lemmas.proofs.{◌∙◌, Some, ap}
use Rattle.std.proofs.lemmas.Result.{on_ok_weaker}
use Rattle.block_passes.proofs.Selecting.{above_there, filter_tried, has_named, never_none, own_there}
use Rattle.block_passes.proofs.Serving.{leaves_then}
use Rattle.block_passes.proofs.passes.try_filter.Goals as goal

pub named-requires : goal.named-requires
named-requires g c = has_named _ c.requires.turn.fits.job c.args.filter c.requires.covered c.args.at.now.plan.now c.requires.turn.plan

pub select_again-requires-clause-step : goal.select_again-requires-clause-step
select_again-requires-clause-step g c = above_there _ c.requires.turn.fits.job c.args.filter c.requires.covered c.args.at.now.plan.now c.requires.turn.plan c.in-Some.named (c.named.ensures ∙ ap Some c.in-Some.is)

pub select_again-requires-in-Ok-clause-step : goal.select_again-requires-in-Ok-clause-step
select_again-requires-in-Ok-clause-step g c = own_there _ c.requires.turn.fits.job c.args.filter c.requires.covered c.args.at.now.plan.now c.requires.turn.plan c.in-Some.named (c.named.ensures ∙ ap Some c.in-Some.is)

pub unreachable-requires : goal.unreachable-requires
unreachable-requires g c = never_none _ c.requires.turn.fits.job c.args.filter c.requires.covered c.args.at.now.plan.now c.requires.turn.plan (c.named.ensures ∙ ap Some c.in-None.is)

pub returns-in-Ok : goal.returns-in-Ok
returns-in-Ok g c = record {
  leaves = leaves_then _ _ _ _ _ _ _ c.select_again.ensures.leaves c.select_again-in-Ok.ensures.leaves;
  tried = λ p.
      on_ok_weaker c.select_again-in-Ok.result
      (filter_tried _ c.requires.turn.fits.job c.args.filter c.requires.covered c.args.at.now.plan.now p c.in-Some.named (c.named.ensures ∙ ap Some c.in-Some.is) c.args.at.now.first c.args.at.now.count c.args.at.now.pass c.select_again.new.work.lanes.items c.select_again-in-Ok.new.work.lanes.items c.args.kept.now c.select_again.new.kept c.select_again-in-Ok.new.kept c.args.work.now.found c.select_again.new.work.found c.select_again-in-Ok.new.work.found
      (c.in-Ok.ensures.selected p))
      (c.select_again-in-Ok.ensures.selected p);
  plain = c.select_again-in-Ok.ensures.plain;
}
