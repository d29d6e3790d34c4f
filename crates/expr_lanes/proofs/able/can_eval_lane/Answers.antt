use Rattle.lemmas.proofs.{◌∙◌, sym, subst}
use Rattle.rdf_values.specs.{EachColumn, NumTree}
use Rattle.expr_eval.proofs.InOrder.{known_columns}
use Rattle.expr_lanes.proofs.able.can_eval_lane.Goals as goal

pub is_node_able-requires : goal.is_node_able-requires
is_node_able-requires g c =
    subst (λ (e : NumTree). EachColumn (g.I.LaneInputs.can_tell c.args.inputs.now) e) (sym (c.behind-expr.view_is ∙ c.tree.ensures.tree))
    (known_columns c.args.expr.now c.tree.ensures.typed (g.I.LaneInputs.can_tell c.args.inputs.now) c.requires)
