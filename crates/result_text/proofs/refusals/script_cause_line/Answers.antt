use Rattle.lemmas.proofs.{append_assoc}
use Rattle.result_text.proofs.refusals.script_cause_line.Goals as goal

pub returns-in_ok-format-in-Syntax : goal.returns-in_ok-format-in-Syntax
returns-in_ok-format-in-Syntax c = rw (c.in-Syntax.is, c.in_ok-format-in-Syntax.ensures.ok) (simp append_assoc)

pub returns-in_ok-format-in-Expression : goal.returns-in_ok-format-in-Expression
returns-in_ok-format-in-Expression c = rw (c.in-Expression.is, c.in_ok-format-in-Expression.ensures.ok, c.expr_cause_text-text.ensures) (simp append_assoc)

pub returns-in_ok-format-in-TooMany : goal.returns-in_ok-format-in-TooMany
returns-in_ok-format-in-TooMany c = rw (c.in-TooMany.is, c.in_ok-format-in-TooMany.ensures.ok) (simp append_assoc)
