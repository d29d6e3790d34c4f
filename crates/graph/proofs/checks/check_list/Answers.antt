use Rattle.lemmas.proofs.{arith, length}
use Rattle.rdf_values.specs.{expect_kind, kind_of}
use Rattle.graph.specs.{scope_before, statements}
use Rattle.graph.proofs.Walking.{appends_more, handed_on, list_counted, passed_each, stopped_each, stops_for}
use Rattle.graph.proofs.checks.check_list.Goals as goal

pub returns-in_err-expected-clause-decided : goal.returns-in_err-expected-clause-decided
returns-in_err-expected-clause-decided c =
    handed_on _ _ _ c.from_residual-in_err-expected.ensures.1
    (stops_for _ _ _ (list_counted c.args.before.now.names.now (scope_before c.args.before.now c.args.change.now.parent.now) (length c.args.change.now.tags.now) c.args.column.now c.args.exprs.now _ c.refuse_unless.result c.kind_at-kind.ensures c.refuse_unless.ensures c.in_ok-stop_if.ensures)
    (stopped_each (λ e. expect_kind c.kind_at-kind.result (kind_of (scope_before c.args.before.now c.args.change.now.parent.now) c.args.before.now.names.now e)) c.args.exprs.now c.loop-expr.expr-index c.expr-item.result (omega arith) c.expr-item.is c.loop-expr.invariant.passed _ c.in_err-expected.ensures.decided))

pub loop-expr-preserved : goal.loop-expr-preserved
loop-expr-preserved c = record {
  checked = appends_more c.args.before.now.header.now c.args.before.now.names.now (statements c.args.before.now.lines.now) c.args.change.now.parent.now c.args.exprs.now c.loop-expr.expr-index c.expr-item.result _ _ _ c.in_ok-expected.field-0 (omega arith) c.expr-item.is c.loop-expr.invariant.checked c.in_ok-expected.ensures.checked c.in_ok-push.ensures.items;
  passed = passed_each (λ e. expect_kind c.kind_at-kind.result (kind_of (scope_before c.args.before.now c.args.change.now.parent.now) c.args.before.now.names.now e)) c.args.exprs.now c.loop-expr.expr-index c.expr-item.result (omega arith) c.expr-item.is c.loop-expr.invariant.passed c.in_ok-expected.ensures.decided;
}
