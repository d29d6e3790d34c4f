use Rattle.lemmas.proofs.{◌∙◌}
use Rattle.block_cache.specs.{outcome_over}
use Rattle.block_cache.proofs.LaneSteps.{on_err, left_given, begun_after, each_joined, each_value, evaluated_after, lane_after, lane_begun}
use Rattle.block_cache.proofs.lane.Lane.evaluate_each.Goals as goal

pub invariant_of-self : goal.invariant_of-self
invariant_of-self g c = (c.mark.ensures.count ∙ c.self.invariant.0, lane_begun c.self.view_is c.self.invariant.1 c.requires.selected.inside c.requires.unknown _ c.mark.ensures.marked c.mark.ensures.long (rw c.as_slice.ensures.value at c.each_place.ensures.written))

pub returns-in_err-each_place-clause-begun : goal.returns-in_err-each_place-clause-begun
returns-in_err-each_place-clause-begun g c =
    on_err c.from_residual.result (begun_after c.self.view_is c.self.invariant.1 c.requires.selected.inside c.requires.unknown _ c.mark.ensures.marked c.mark.ensures.long (rw c.as_slice.ensures.value at c.each_place.ensures.written) c.mark.ensures.newly)

pub invariant_of-self-2 : goal.invariant_of-self-2
invariant_of-self-2 g c =
    let come = rw c.as_slice.ensures.value at c.in_ok-each_place.ensures.come in
    let left = c.keep_unmarked.ensures ∙ left_given (outcome_over c.args.evaluation.now.view.block.now c.args.evaluation.now.view.lanes.now c.args.evaluation.now.expr.now.tree) _ c.args.selection.now come.marked in
    rw c.mark-2.ensures.count (
      c.mark.ensures.count ∙ c.self.invariant.0,
      lane_after c.self.view_is c.self.invariant.1 c.requires.selected.inside c.requires.unknown _ c.mark.ensures.marked c.mark.ensures.long (rw c.as_slice.ensures.value at c.each_place.ensures.written)
          left _ c.mark-2.ensures.marked c.mark-2.ensures.long (each_value come c.requires.kind left),
    )

pub returns-clause-evaluated : goal.returns-clause-evaluated
returns-clause-evaluated g c =
    let come = rw c.as_slice.ensures.value at c.in_ok-each_place.ensures.come in
    let left = c.keep_unmarked.ensures ∙ left_given (outcome_over c.args.evaluation.now.view.block.now c.args.evaluation.now.view.lanes.now c.args.evaluation.now.expr.now.tree) _ c.args.selection.now come.marked in
    rw c.mark-2.ensures.count
    (evaluated_after c.self.view_is c.self.invariant.1 c.requires.selected.inside c.requires.unknown _ c.mark.ensures.marked c.mark.ensures.long (rw c.as_slice.ensures.value at c.each_place.ensures.written)
    left _ c.mark-2.ensures.marked c.mark-2.ensures.long (each_value come c.requires.kind left) (each_joined come) c.mark.ensures.newly)
