use Rattle.std.proofs.lemmas.Result.{IfErr-weaker}
use Rattle.script_read.proofs.FirstBads.{refused_here}
use Rattle.script_read.proofs.statement.variation.Goals as goal

pub returns-in-Some-clause-err : goal.returns-in-Some-clause-err
returns-in-Some-clause-err c = rw c.in-Some.is (IfErr-weaker c.name.result _ _ (λ e h. refused_here _ _ e h) c.name.ensures.err)
