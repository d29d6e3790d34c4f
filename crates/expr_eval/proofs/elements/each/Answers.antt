use Rattle.lemmas.proofs.{rules, FitsSigned, w64, get_or, pos, drop_more, to_z-of_z}
use Rattle.expr_eval.proofs.InOrder.{goes_on, stops}
use Rattle.expr_eval.proofs.elements.each.Goals as goal

pub returns-in-Err : goal.returns-in-Err
returns-in-Err g c =
    let fits : FitsSigned w64 (get_or c.args.xs.now c.loop-x.x-index (pos 0)) = search rules in
    let e = simp to_z-of_z at c.in-Err.ensures in
    stops (g.E.Elementwise.outcome c.args.operation.now) c.loop-x.results.items _ _ _ _ c.loop-x.invariant (drop_more c.args.xs.now c.loop-x.x-index (pos 0) c.loop-x-test.true) _ e

pub loop-x-preserved : goal.loop-x-preserved
loop-x-preserved g c =
    let fits : FitsSigned w64 (get_or c.args.xs.now c.loop-x.x-index (pos 0)) = search rules in
    let fits_too : FitsSigned w64 c.in-Ok.z = search rules in
    let e = simp to_z-of_z at c.in-Ok.ensures in
    let p = simp to_z-of_z at c.in_ok-push-in-Ok.ensures.items in
    rw p (goes_on (g.E.Elementwise.outcome c.args.operation.now) c.loop-x.results.items _ _ _ _ c.loop-x.invariant (drop_more c.args.xs.now c.loop-x.x-index (pos 0) c.loop-x-test.true) _ e)
