use Rattle.lemmas.proofs.{rules, arith, FitsSigned, w64, get_or, pos}
use Rattle.std.proofs.lemmas.Int.{to_z-of_z}
use Rattle.rdf_model.specs.{number_operation}
use Rattle.expr_eval.proofs.InOrder.{pairs_from, pairs_go_on, stops}
use Rattle.expr_eval.proofs.elements.each_pair.Goals as goal

pub returns-in-Err : goal.returns-in-Err
returns-in-Err c =
    let fits : FitsSigned w64 (get_or c.args.xs.now c.loop-i.i (pos 0)) = search rules in
    let fits_too : FitsSigned w64 (get_or c.args.ys.now c.loop-i.i (pos 0)) = search rules in
    let e = simp to_z-of_z at c.in-Err.ensures in
    stops (λ p. number_operation c.args.op p.0 p.1) c.loop-i.results.items _ _ _ _ c.loop-i.invariant (pairs_from c.args.xs.now c.args.ys.now c.loop-i.i (pos 0) (pos 0) (omega arith) c.requires) _ e

pub loop-i-preserved : goal.loop-i-preserved
loop-i-preserved = grind (arith, to_z-of_z, pairs_go_on)
