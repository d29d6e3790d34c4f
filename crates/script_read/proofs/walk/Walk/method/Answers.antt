use Rattle.lemmas.proofs.{◌∙◌, arith, common_steps, IfOk-weaker}
use Rattle.script_read.specs.{method_of}
use Rattle.script_read.proofs.Walked.{method_wanted, took_method}
use Rattle.script_read.proofs.walk.Walk.method.Goals as goal

pub returns-in_err-expect-clause-stuck : goal.returns-in_err-expect-clause-stuck
returns-in_err-expect-clause-stuck c h k = let so_far = method_wanted _ c.in_ok-name.name k c.in_ok-name.ensures.sees c.advance.ensures in grind (arith, common_steps)

pub returns-clause-took : goal.returns-clause-took
returns-clause-took c =
    IfOk-weaker c.arguments.result _ _ (λ m x. took_method c.in_ok-name.name (method_of m) c.in_ok-name.ensures.sees c.advance.ensures c.in_ok-expect.ensures.took x) c.arguments.ensures.took

pub returns-clause-stuck : goal.returns-clause-stuck
returns-clause-stuck c h k = method_wanted _ c.in_ok-name.name k c.in_ok-name.ensures.sees c.advance.ensures ∙ c.in_ok-expect.ensures.took.walks _ ∙ c.arguments.ensures.stuck h k
