use Rattle.lemmas.proofs.{rules, FitsSigned, w64, get_or, pos, ap, arith, to_z, of_z}
use Rattle.std.proofs.lemmas.Int.{to_z-of_z}
use Rattle.rdf_model.specs.{is_set}
use Rattle.expr_eval.proofs.InOrder.{marked_kept, marked_left_out, set_mark}
use Rattle.expr_eval.proofs.elements.marked.Goals as goal

pub loop-i-preserved-then-marks-i-eq0 : goal.loop-i-preserved-then-marks-i-eq0
loop-i-preserved-then-marks-i-eq0 c =
    let fits : FitsSigned w64 (get_or c.args.marks.now c.loop-i.i (pos 0)) = search rules in
    let e = simp to_z-of_z at (ap (to_z w64) c.if-marks-i-eq0.true) in
    marked_left_out c.args.xs.now c.args.marks.now c.loop-i.i (pos 0) (pos 0) (omega arith) c.requires c.loop-i.results.items c.loop-i.invariant (ap is_set e)

pub loop-i-preserved : goal.loop-i-preserved
loop-i-preserved c =
    let fits : FitsSigned w64 (get_or c.args.marks.now c.loop-i.i (pos 0)) = search rules in
    let fits_too : FitsSigned w64 (get_or c.args.xs.now c.loop-i.i (pos 0)) = search rules in
    let p = simp to_z-of_z at c.in_ok-push.ensures.items in
    rw p (marked_kept c.args.xs.now c.args.marks.now c.loop-i.i (pos 0) (pos 0) (omega arith) c.requires c.loop-i.results.items c.loop-i.invariant (set_mark _ (λ h. c.if-marks-i-eq0.false (ap (of_z w64) h))))
