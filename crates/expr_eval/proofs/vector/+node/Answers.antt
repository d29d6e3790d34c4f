use Rattle.lemmas.proofs.{sym}
use Rattle.expr_eval.proofs.InOrder.{both_sides}
use Rattle.expr_eval.specs.{operand_value}
use Rattle.expr_eval.proofs.vector.+node.Goals as goal

pub eval_node-returns-in_ok-right-in-Bin : goal.eval_node-returns-in_ok-right-in-Bin
eval_node-returns-in_ok-right-in-Bin g t c =
    let left = rw c.deref-in-Bin.ensures at c.in_ok-left-in-Bin.ensures in
    let right = rw c.deref-in-Bin-2.ensures at c.in_ok-right-in-Bin.ensures in
    rw c.in-Bin.is (both_sides c.in-Bin.op _ _ _ left operand_value _ c.combine.result (sym c.in_default.ensures) right c.combine.ensures)
