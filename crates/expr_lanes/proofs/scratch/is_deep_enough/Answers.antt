use Rattle.lemmas.proofs.{◌∙◌, ◌≤◌, ◌↔◌, IsTrue, subst}
use Rattle.rdf_values.specs.{NumTree}
use Rattle.expr_lanes.specs.{depth}
use Rattle.expr_lanes.proofs.scratch.is_deep_enough.Goals as goal

pub returns : goal.returns
returns c = subst (λ (e : NumTree). IsTrue c.is_node_within.result ↔ (depth e ≤ c.args.levels)) (c.behind-expr.view_is ∙ c.tree.ensures.tree) c.is_node_within.ensures
