use Rattle.lemmas.proofs.{◌≡◌, ◌<◌, length, get_or, ap, ◌∙◌, arith}
use Rattle.rdf_values.specs.{column_kind, kind_or_int}
use Rattle.snapshot_plan.specs.{PlanView, scope_in}
use Rattle.snapshot_plan.proofs.Listed.{next_column}
use Rattle.snapshot_plan.proofs.planning.SnapPlan.header.Goals as goal

pub loop-column-preserved : goal.loop-column-preserved
loop-column-preserved c =
    let xs = c.args.self.now.columns in
    let i = c.loop-column.column-index in
    let item = c.column-item.result in
    let items : c.as_slice-column-items.result.now ≡ xs = cc in
    let lt : i < length xs = omega (arith, ap length items, c.loop-column-test.true) in
    let is : item ≡ get_or xs i item = c.column-item.is ∙ ap (λ l. get_or l i item) items in
    next_column (scope_in c.args.self.now.graph c.args.self.now.node) xs i item c.in_ok-name.name c.kind_or_int-kind.result c.loop-column.header c.push.new.self lt is c.in_ok-name.ensures (c.kind_or_int-kind.ensures ∙ ap (λ (p : PlanView). kind_or_int (column_kind (scope_in p.graph p.node) item)) c.self.view_is) c.loop-column.invariant c.in_ok-push.ensures.ok
