use Rattle.lemmas.proofs.{List}
use Rattle.loop_keys.specs.{job_of}
use Rattle.block_passes.specs.{Chain, IsLed, IsPassLast, IsPlanned}
use Rattle.block_passes.proofs.PlanSteps.{pass_led, result_in}
use Rattle.std.proofs.lemmas.Result.{IfOk-weaker}
use Rattle.block_passes.proofs.plan.pass_step.Goals as goal

pub kind-requires : goal.kind-requires
kind-requires g c = result_in (job_of c.args.job.now) c.args.job.now.graph.now c.requires.job.graph c.requires.own.0 c.args.own c.requires.own.1

pub path-requires : goal.path-requires
path-requires g c = result_in (job_of c.args.job.now) c.args.job.now.graph.now c.requires.job.graph c.requires.own.0 c.args.own c.requires.own.1

pub returns-in-Action : goal.returns-in-Action
returns-in-Action g c = λ chains pass are its.
    IfOk-weaker c.path_steps.result (IsLed chains c.path.result.now c.args.own.variation c.path_steps.new.steps) (IsPlanned (job_of c.args.job.now) (λ (cs : List Chain). IsPassLast (job_of c.args.job.now) cs pass) chains c.path_steps.new.steps)
    (λ k led. pass_led (job_of c.args.job.now) pass c.args.own its c.args.job.now.graph.now c.requires.job.graph c.kind.result.now c.kind.ensures c.in-Action.field-0 c.in-Action.is c.path.result.now c.path.ensures chains c.path_steps.new.steps k led)
    (c.path_steps.ensures chains are)
