use Rattle.rdf_values.specs.{refused_line}
use Rattle.script_read.proofs.read.refusal_at.Goals as goal

pub returns-in-Syntax-clause-refused : goal.returns-in-Syntax-clause-refused
returns-in-Syntax-clause-refused c = λ line before bad lines. refused_line (rw c.in-Syntax.is at bad)

pub returns-in-Expression-clause-refused : goal.returns-in-Expression-clause-refused
returns-in-Expression-clause-refused c = λ line before bad lines. refused_line (rw c.in-Expression.is at bad)
