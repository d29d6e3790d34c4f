use Rattle.lemmas.proofs.{add-one}
use Rattle.std.proofs.lemmas.Result.{err_from_is_err_and}
use Rattle.rdf_values.proofs.OneScript.{one_script, script_or_refusal}
use Rattle.expr_read.proofs.Decided.{read_once}
use Rattle.script_read.proofs.FirstLines.{reads_line, reads_bad, reads_all, nothing_left, memory_alone, cause_or_memory}
use Rattle.script_read.proofs.read.read_script.Goals as goal

pub returns-in_err-add_line-clause-complete : goal.returns-in_err-add_line-clause-complete
returns-in_err-add_line-clause-complete c = λ s is.
    let p = err_from_is_err_and c.from_residual.result c.from_residual.ensures.1 in
    rw (p.1, p.2) (memory_alone _ _ s (reads_bad _ _ _ _ _ _ _ c.loop-left.invariant c.first_line.ensures.lines c.in_err-add_line.ensures.err) is)

pub returns-in_err-add_line-clause-first : goal.returns-in_err-add_line-clause-first
returns-in_err-add_line-clause-first c = λ cause is.
    let p = err_from_is_err_and c.from_residual.result c.from_residual.ensures.1 in
    rw (p.1, p.2) (cause_or_memory _ _ cause (reads_bad _ _ _ _ _ _ _ c.loop-left.invariant c.first_line.ensures.lines c.in_err-add_line.ensures.err) is)

pub loop-left-preserved : goal.loop-left-preserved
loop-left-preserved c = rw add-one (reads_line _ _ _ _ _ _ _ c.loop-left.invariant c.first_line.ensures.lines c.first_line.ensures.rest c.in_ok-add_line.ensures.ok)

pub returns-clause-ok : goal.returns-clause-ok
returns-clause-ok c = reads_all _ _ _ _ c.loop-left.invariant (nothing_left _ _ c.is_empty.ensures c.loop-left-test.false)

pub returns-clause-complete : goal.returns-clause-complete
returns-clause-complete c = λ s is. one_script read_once _ _ s (reads_all _ _ _ _ c.loop-left.invariant (nothing_left _ _ c.is_empty.ensures c.loop-left-test.false)) is

pub returns-clause-first : goal.returns-clause-first
returns-clause-first c = λ cause is. script_or_refusal read_once _ _ cause (reads_all _ _ _ _ c.loop-left.invariant (nothing_left _ _ c.is_empty.ensures c.loop-left-test.false)) is
