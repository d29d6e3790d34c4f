use Rattle.lemmas.proofs.{◌∙◌, subst}
use Rattle.rdf_values.specs.{AreFnNames}
use Rattle.expr_eval.proofs.InOrder.{can_call}
use Rattle.expr_eval.proofs.calls.callable.Goals as goal

pub returns-clause-node : goal.returns-clause-node
returns-clause-node g c = c.behind-expr.view_is ∙ c.tree.ensures.tree

pub returns-clause-calls : goal.returns-clause-calls
returns-clause-calls g c = can_call _ c.args.expr.now (subst AreFnNames c.names.ensures c.len-count.ensures.valid) c.tree.ensures.typed c.requires
