use Rattle.rdf_model.specs.{call_outcome, evaluate}
use Rattle.entry_fns.specs.{functions_in}
use Rattle.expr_lanes.specs.{lane_evaluate}
use Rattle.expr_lanes.proofs.Agreement.{lane_is, value_is}
use Rattle.expr_lanes.proofs.Composed.{by_value}
use Rattle.expr_lanes.proofs.evaluation.eval_lane.Goals as goal

pub eval_node-requires-clause-able : goal.eval_node-requires-clause-able
eval_node-requires-clause-able g c =
    rw c.callable-node.ensures.node (record { can = c.requires.can; calls = c.callable-node.ensures.calls; deep = c.requires.deep })

pub returns-clause-values : goal.returns-clause-values
returns-clause-values g c =
    let ended = rw c.callable-node.ensures.node at c.eval_node.ensures in
    by_value (λ p. evaluate (g.I.LaneInputs.look c.args.evaluation.now.inputs.now p) (call_outcome (functions_in c.args.evaluation.now.functions.now)) c.args.evaluation.now.expr.now.tree)
    (λ p. lane_evaluate (g.I.LaneInputs.look c.args.evaluation.now.inputs.now p) (functions_in c.args.evaluation.now.functions.now) c.args.evaluation.now.expr.now.tree) c.args.evaluation.now.expr.now.kind _ _ _ _ _ _
    (λ p h. lane_is (g.I.LaneInputs.can c.args.evaluation.now.inputs.now) (g.I.LaneInputs.can_tell c.args.evaluation.now.inputs.now) (functions_in c.args.evaluation.now.functions.now) (g.I.LaneInputs.look c.args.evaluation.now.inputs.now p) c.args.evaluation.now.expr.now c.callable-node.ensures.typed (c.requires.fit p (c.requires.ready.selected.inside p h)) c.requires.scalar c.requires.can)
    (λ p h. value_is (g.I.LaneInputs.can c.args.evaluation.now.inputs.now) (g.I.LaneInputs.can_tell c.args.evaluation.now.inputs.now) (functions_in c.args.evaluation.now.functions.now) (g.I.LaneInputs.look c.args.evaluation.now.inputs.now p) c.args.evaluation.now.expr.now c.callable-node.ensures.typed (c.requires.fit p (c.requires.ready.selected.inside p h)) c.requires.scalar c.requires.can)
    ended
