use Rattle.lemmas.proofs.{◌∙◌, List, length, refl, subst, sym, slice_set, AllByRecursion, on_ok_weaker}
use Rattle.rdf_values.specs.{ColType}
use Rattle.block_cache.specs.{kinds_of, LaneView}
use Rattle.block_passes.specs.{CanServe, IsPassTried, IsServedTo, unfed, turn_job}
use Rattle.block_passes.proofs.Selecting.{action_tried, gathers, has_step, kept_inside, last_there, read_plain, to_demanded, to_selected}
use Rattle.block_passes.proofs.Serving.{leaves_kept, leaves_then, served_selected}
use Rattle.block_passes.proofs.passes.try_action.Goals as goal

pub last_step-last-requires : goal.last_step-last-requires
last_step-last-requires g c = has_step (turn_job c.args.at.now) c.requires.turn.fits.job c.args.at.now.first c.args.at.now.count c.args.at.now.pass c.args.at.now.plan.now c.requires.turn.plan c.requires.turn.within c.args.own.now.kind.now c.args.own.now.inputs.now c.args.own.now.under c.requires.action

pub select_again-requires-clause-step : goal.select_again-requires-clause-step
select_again-requires-clause-step g c = last_there (turn_job c.args.at.now) c.requires.turn.fits.job c.args.at.now.first c.args.at.now.count c.args.at.now.pass c.args.at.now.plan.now c.requires.turn.plan c.requires.turn.within c.args.own.now.kind.now c.args.own.now.inputs.now c.args.own.now.under c.requires.action c.last_step-last.result c.last_step-last.ensures

pub bounds-kept-last : goal.bounds-kept-last
bounds-kept-last g c =
    kept_inside (turn_job c.args.at.now) c.args.at.now.first c.select_again.new.work.found.limit c.requires.turn.plan.chains c.args.at.now.plan.now.steps c.select_again.new.kept c.last_step-last.result c.requires.turn.plan.steps (c.in_ok-select_again.ensures.selected c.requires.turn.plan).ready.kept_are (last_there (turn_job c.args.at.now) c.requires.turn.fits.job c.args.at.now.first c.args.at.now.count c.args.at.now.pass c.args.at.now.plan.now c.requires.turn.plan c.requires.turn.within c.args.own.now.kind.now c.args.own.now.inputs.now c.args.own.now.under c.requires.action c.last_step-last.result c.last_step-last.ensures)

pub serve_inputs-requires-clause-selected : goal.serve_inputs-requires-clause-selected
serve_inputs-requires-clause-selected g c = to_selected (turn_job c.args.at.now) c.requires.turn.fits.job c.args.at.now.first c.args.at.now.count c.args.at.now.pass c.args.at.now.plan.now c.requires.turn.plan c.requires.turn.within c.args.own.now.kind.now c.args.own.now.inputs.now c.args.own.now.under c.requires.action c.last_step-last.result c.last_step-last.ensures c.args.kept.now c.select_again.new.kept c.select_again.new.work.lanes.items c.args.work.now.found c.select_again.new.work.found (c.in_ok-select_again.ensures.selected c.requires.turn.plan) c.index-kept-last.result

pub serve_inputs-requires-clause-demanded : goal.serve_inputs-requires-clause-demanded
serve_inputs-requires-clause-demanded g c = to_demanded (turn_job c.args.at.now) c.requires.turn.fits.job c.args.at.now.first c.args.at.now.count c.args.at.now.pass c.args.at.now.plan.now c.requires.turn.plan c.requires.turn.within c.args.own.now.kind.now c.args.own.now.inputs.now c.args.own.now.under c.requires.action c.last_step-last.result c.last_step-last.ensures c.args.kept.now c.select_again.new.kept c.select_again.new.work.lanes.items c.args.work.now.found c.select_again.new.work.found (c.in_ok-select_again.ensures.selected c.requires.turn.plan) c.index-kept-last.result

pub returns-in_err-serve_inputs-clause-leaves : goal.returns-in_err-serve_inputs-clause-leaves
returns-in_err-serve_inputs-clause-leaves g c = leaves_then _ _ _ _ _ _ _ c.select_again.ensures.leaves c.serve_inputs.ensures.leaves

pub test_feeding-requires-clause-can : goal.test_feeding-requires-clause-can
test_feeding-requires-clause-can g c =
    gathers (turn_job c.args.at.now) c.requires.turn.fits.job c.args.at.now.first c.args.at.now.count c.args.at.now.pass c.args.at.now.plan.now c.requires.turn.plan c.requires.turn.within c.args.own.now.kind.now c.args.own.now.inputs.now c.args.own.now.under c.requires.action (c.requires.ready c.requires.turn.plan).ready.some (kinds_of c.serve_inputs.new.work.lanes.items) c.args.at.now.cells.now (length c.args.work.now.scratch.items) (length c.args.work.now.levels.items)
    (subst (λ (ks : List ColType). AllByRecursion (CanServe (turn_job c.args.at.now) c.args.at.now.first c.args.own.now.under c.args.at.now.count ks c.args.at.now.cells.now (length c.args.work.now.scratch.items) (length c.args.work.now.levels.items)) c.args.own.now.inputs.now)
    (sym (c.serve_inputs.ensures.leaves.spends.kinds ∙ c.select_again.ensures.leaves.spends.kinds)) c.requires.serve)

pub test_feeding-requires-clause-selected : goal.test_feeding-requires-clause-selected
test_feeding-requires-clause-selected g c = served_selected _ _ _ _ _ _ _ _ _ _ c.in_ok-serve_inputs.ensures.served

pub returns-in_err-serve_inputs-clause-plain : goal.returns-in_err-serve_inputs-clause-plain
returns-in_err-serve_inputs-clause-plain g c = λ loop.
    absurd (c.in_err-serve_inputs.ensures.plain loop.used loop.sites (read_plain (turn_job c.args.at.now) c.args.at.now.pass c.args.own.now.kind.now c.args.own.now.inputs.now c.args.own.now.under c.requires.action loop))

pub returns : goal.returns
returns g c =
    let j = turn_job c.args.at.now in
    record {
      leaves = leaves_kept _ _ _ _ _ _ (leaves_then _ _ _ _ _ _ _ c.select_again.ensures.leaves c.serve_inputs.ensures.leaves) c.test_feeding.ensures.lanes c.test_feeding.ensures.room;
      tried = λ p.
          on_ok_weaker c.test_feeding.result
          (λ (tested : IsServedTo j c.args.at.now.first c.args.at.now.count (unfed j c.args.at.now.first c.args.own.now.kind.now c.args.own.now.inputs.now c.args.own.now.under) c.args.at.now.pass c.serve_inputs.new.to.places c.test_feeding.new.to c.serve_inputs.new.work.lanes.items c.serve_inputs.new.work.found c.test_feeding.new.work.found).
          subst (λ (ls : List LaneView). IsPassTried j c.args.at.now.first c.args.at.now.count c.args.at.now.plan.now p.chains c.args.at.now.pass ls c.args.kept.now (slice_set c.select_again.new.kept c.last_step-last.result c.test_feeding.new.to) c.args.work.now.found c.test_feeding.new.work.found) (sym c.test_feeding.ensures.lanes)
          (action_tried (turn_job c.args.at.now) c.requires.turn.fits.job c.args.at.now.first c.args.at.now.count c.args.at.now.pass c.args.at.now.plan.now p c.requires.turn.within c.args.own.now.kind.now c.args.own.now.inputs.now c.args.own.now.under c.requires.action c.last_step-last.result c.last_step-last.ensures c.args.kept.now c.select_again.new.kept c.select_again.new.work.lanes.items c.args.work.now.found c.select_again.new.work.found (c.in_ok-select_again.ensures.selected p) c.index-kept-last.result (c.requires.ready p).within c.serve_inputs.new.to c.test_feeding.new.to c.serve_inputs.new.work.lanes.items c.serve_inputs.new.work.found c.test_feeding.new.work.found
          c.in_ok-serve_inputs.ensures.served c.in_ok-serve_inputs.ensures.held tested (slice_set c.select_again.new.kept c.last_step-last.result c.test_feeding.new.to) refl))
          c.test_feeding.ensures.tested;
      plain = λ loop. c.test_feeding.ensures.plain (record { used = loop.used; sites = loop.sites; inputs = read_plain j c.args.at.now.pass c.args.own.now.kind.now c.args.own.now.inputs.now c.args.own.now.under c.requires.action loop });
    }
