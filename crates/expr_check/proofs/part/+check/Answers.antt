use Rattle.std.proofs.lemmas.Result.{err_from_is_err_and}
use Rattle.rdf_values.specs.{trees_of}
use Rattle.expr_check.proofs.WellTyped.{call_miscounted, call_refused, call_mistyped, call_typed}
use Rattle.expr_check.proofs.part.+check.Goals as goal

pub check_call-returns-then-not-has_count-clause-refused : goal.check_call-returns-then-not-has_count-clause-refused
check_call-returns-then-not-has_count-clause-refused g t c =
    call_miscounted (g.C.ReadableColumns.kind_named c.args.columns.now) c.args.names.now c.args.name.now (trees_of c.args.args.now) _ _ _ c.in-Some.ensures.0 c.signature_of-gives.ensures _ c.has_count.ensures c.if-not-has_count.true

pub check_call-returns-in_err-arguments-clause-refused : goal.check_call-returns-in_err-arguments-clause-refused
check_call-returns-in_err-arguments-clause-refused g t c =
    let p = err_from_is_err_and c.from_residual.result c.from_residual.ensures.1 in
    rw (p.1, p.2)
    (call_refused (g.C.ReadableColumns.kind_named c.args.columns.now) c.args.names.now c.args.name.now (trees_of c.args.args.now) _ _ _ c.in-Some.ensures.0 c.signature_of-gives.ensures _ _ c.has_count.ensures c.if-not-has_count.false c.in_err-arguments.ensures.refused)

pub check_call-returns-else-arguments-clause-refused : goal.check_call-returns-else-arguments-clause-refused
check_call-returns-else-arguments-clause-refused g t c =
    call_mistyped (g.C.ReadableColumns.kind_named c.args.columns.now) c.args.names.now c.args.name.now (trees_of c.args.args.now) _ _ _ c.in-Some.ensures.0 c.signature_of-gives.ensures _ _ c.has_count.ensures c.if-not-has_count.false c.in_ok-arguments.ensures.fit c.if-arguments.false

pub check_call-returns-then-arguments-clause-kind : goal.check_call-returns-then-arguments-clause-kind
check_call-returns-then-arguments-clause-kind g t c =
    call_typed (g.C.ReadableColumns.kind_named c.args.columns.now) c.args.names.now c.args.name.now (trees_of c.args.args.now) _ _ _ c.in-Some.ensures.0 c.signature_of-gives.ensures _ _ c.has_count.ensures c.if-not-has_count.false c.in_ok-arguments.ensures.fit c.if-arguments.true
