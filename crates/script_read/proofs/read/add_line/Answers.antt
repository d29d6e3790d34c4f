use Rattle.rdf_values.specs.scripts.Scripts.{too_many}
use Rattle.script_read.specs.{adds_nothing, adds_statement}
use Rattle.lemmas.proofs.{sym, ◌∙◌, arith}
use Rattle.script_read.proofs.read.add_line.Goals as goal

pub returns-in-Ok-None-clause-ok : goal.returns-in-Ok-None-clause-ok
returns-in-Ok-None-clause-ok c = adds_nothing (rw c.in-Ok-None.field-0-is at c.in-Ok-None.ensures.ok)

pub returns-in-Err-clause-err : goal.returns-in-Err-clause-err
returns-in-Err-clause-err c = c.refusal_at.ensures.refused _ _ c.in-Err.ensures.err

pub returns-then-len-eq-MOST_STATEMENTS-clause-err : goal.returns-then-len-eq-MOST_STATEMENTS-clause-err
returns-then-len-eq-MOST_STATEMENTS-clause-err c = λ lines. too_many (rw c.in-Ok-Some.field-0-is at c.in-Ok-Some.ensures.ok) (sym c.len.ensures ∙ c.if-len-eq-MOST_STATEMENTS.true)

pub returns-clause-ok : goal.returns-clause-ok
returns-clause-ok c = rw c.in_ok-push.ensures.ok (adds_statement (rw c.in-Ok-Some.field-0-is at c.in-Ok-Some.ensures.ok) (omega arith))
