use Rattle.lemmas.proofs.{[], ◌∷◌, ◌∙◌, rules, sym}
use Rattle.rdf_values.specs.{check_node, ColType, expect_kind, kind_of, scope_at, scope_of}
use Rattle.graph.specs.{statements}
use Rattle.graph.proofs.Walking.{alone, passed_before}
use Rattle.graph.proofs.Finished.{filter_gained}
use Rattle.graph.proofs.book.filter_gain.Goals as goal

pub returns-clause-gained : goal.returns-clause-gained
returns-clause-gained c =
    filter_gained c.args.before.now.header.now c.args.before.now.names.now (statements c.args.before.now.lines.now) c.args.before.now.tables.now c.args.before.now.are c.args.node.now c.args.parent.now c.args.expr.now c.args.label.now c.in_ok-site.site
    _ (passed_before (check_node (statements c.args.before.now.lines.now) c.args.node.now c.args.parent.now ∷ []) ((expect_kind ColType.Bool (kind_of (scope_at c.args.before.now.names.now (scope_of c.args.before.now.header.now) (statements c.args.before.now.lines.now) c.args.parent.now) c.args.before.now.names.now c.args.expr.now)) ∷ []) c.check_node.result (c.check_node.ensures ∙ sym (alone _)) c.in_ok-stop_if.ensures ∙ alone _ ∙ c.in_ok-site.ensures.decided) c.in_ok-site.ensures.checked (search rules)
