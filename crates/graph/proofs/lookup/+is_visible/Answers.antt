use Rattle.lemmas.proofs.{◌∙◌, ap}
use Rattle.rdf_values.specs.{is_visible, scope_at, scope_of}
use Rattle.graph.specs.{statements}
use Rattle.graph.proofs.Finished.{empty}
use Rattle.graph.proofs.Walking.{column_seen, visible_above, visible_past}
use Rattle.graph.proofs.lookup.+is_visible.Goals as goal

pub returns-in_default : goal.returns-in_default
returns-in_default t c names =
    c.is_cell.ensures ∙ column_seen c.args.header.now c.args.name.now
    ∙ ap (λ ls. is_visible (scope_at names (scope_of c.args.header.now) (statements ls) c.args.node.now) c.args.name.now) (empty c.args.before.now c.in_default.ensures.cases)

pub returns-in-None : goal.returns-in-None
returns-in-None t c names =
    visible_past names (scope_of c.args.header.now) c.args.before.now c.in-Some.last.now c.in-Some.rest.now c.args.node.now c.args.name.now c.is_visible.result c.in-Some.ensures.cases.0 c.in-None.ensures (c.is_visible.ensures names)

pub returns-else-own_visible : goal.returns-else-own_visible
returns-else-own_visible t c names =
    visible_above names (scope_of c.args.header.now) c.args.before.now c.in-Some.last.now c.in-Some.rest.now c.args.node.now c.in-Some-made_from.parent.now c.args.name.now c.own_visible.result c.is_visible-else-own_visible.result c.in-Some.ensures.cases.0
    c.in-Some-made_from.ensures.0 c.in-Some-made_from.ensures.1 c.own_visible.ensures c.if-own_visible.false (c.is_visible-else-own_visible.ensures names)
