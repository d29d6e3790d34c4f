use Rattle.lemmas.proofs.{◌∙◌}
use Rattle.expr_eval.proofs.InOrder.{known_columns, plain_columns, scalar_fits}
use Rattle.expr_eval.proofs.scalar.eval_int.Goals as goal

pub eval_node-requires : goal.eval_node-requires
eval_node-requires g c =
    let known = known_columns c.args.expr.now c.callable.ensures.typed (g.I.Inputs.can c.args.inputs.now) c.requires.can in
    let plain = plain_columns (g.I.Inputs.look c.args.inputs.now) c.args.expr.now c.callable.ensures.typed c.requires.fit c.requires.plain in
    rw c.callable.ensures.node (known, plain, c.callable.ensures.calls)

pub returns-clause-kind : goal.returns-clause-kind
returns-clause-kind g c =
    let value = rw c.callable.ensures.node at c.eval_node.ensures in
    scalar_fits _ (g.I.Inputs.look c.args.inputs.now) c.args.expr.now c.callable.ensures.typed c.requires.fit c.into_result.result (c.into_result.ensures ∙ value)
