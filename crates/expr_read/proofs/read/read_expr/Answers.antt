use Rattle.expr_read.proofs.Decided.{one_tree}
use Rattle.expr_read.proofs.read.read_expr.Goals as goal

pub returns-clause-complete : goal.returns-clause-complete
returns-clause-complete c a r = one_tree c.args.text.now _ _ a c.in_ok-tokens.ensures (rw c.as_slice.ensures.value at c.in_ok-node.ensures.ok) r
