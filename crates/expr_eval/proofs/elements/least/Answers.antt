use Rattle.lemmas.proofs.{rules, FitsSigned, w64, get_or, pos, int_min, to_z-of_z}
use Rattle.expr_eval.proofs.InOrder.{extreme_goes_on}
use Rattle.expr_eval.proofs.elements.least.Goals as goal

pub loop-x-preserved : goal.loop-x-preserved
loop-x-preserved c =
    let fits : FitsSigned w64 (get_or c.in-Some.rest.now c.loop-x.x-index (pos 0)) = search rules in
    let fits_too : FitsSigned w64 c.min-best.result = search rules in
    let e = simp to_z-of_z at c.min-best.ensures.value in
    simp to_z-of_z (extreme_goes_on int_min _ c.in-Some.rest.now c.loop-x.x-index (pos 0) _ _ c.loop-x-test.true c.loop-x.invariant e)
