use Rattle.lemmas.proofs.{rules, FitsSigned, w64, get_or, pos, ap, sym}
use Rattle.std.proofs.lemmas.Int.{to_z-of_z}
use Rattle.rdf_model.specs.{◌>>=◌, gives_int}
use Rattle.expr_eval.proofs.InOrder.{sum_stops, sum_goes_on}
use Rattle.expr_eval.proofs.elements.sum.Goals as goal

pub returns-in-Err : goal.returns-in-Err
returns-in-Err c =
    let fits : FitsSigned w64 (get_or c.args.xs.now c.loop-x.x-index (pos 0)) = search rules in
    let e = simp to_z-of_z at c.in-Err.ensures in
    sym (ap (λ o. o >>= gives_int) (sum_stops c.args.xs.now c.loop-x.x-index (pos 0) _ c.loop-x-test.true c.loop-x.invariant c.in-Err.kind e))

pub loop-x-preserved : goal.loop-x-preserved
loop-x-preserved c =
    let fits : FitsSigned w64 (get_or c.args.xs.now c.loop-x.x-index (pos 0)) = search rules in
    let fits_too : FitsSigned w64 c.in-Ok.next = search rules in
    let e = simp to_z-of_z at c.in-Ok.ensures in
    simp to_z-of_z (sum_goes_on c.args.xs.now c.loop-x.x-index (pos 0) _ c.loop-x-test.true c.loop-x.invariant c.in-Ok.next e)
