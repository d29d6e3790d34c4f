use Rattle.entry_fns.specs.{functions_in}
use Rattle.expr_eval.proofs.InOrder.{known_columns, value_fits}
use Rattle.expr_eval.proofs.vector.eval.Goals as goal

pub eval_node-requires-clause-can : goal.eval_node-requires-clause-can
eval_node-requires-clause-can g c =
    rw c.callable-node.ensures.node (known_columns c.args.expr.now c.callable-node.ensures.typed (g.I.Inputs.can c.args.inputs.now) c.requires.can)

pub returns-clause-kind : goal.returns-clause-kind
returns-clause-kind g c =
    let comes = rw c.callable-node.ensures.node at c.in_ok-eval_node.ensures in
    value_fits (functions_in c.args.functions.now) (g.I.Inputs.look c.args.inputs.now) c.args.expr.now c.callable-node.ensures.typed c.requires.fit c.into_value.result (rw comes c.into_value.ensures)
