use Rattle.lemmas.proofs.{◌++◌, None}
use Rattle.loop_keys.specs.{job_of}
use Rattle.loop_keys.proofs.PassNumbers.{read_pass}
use Rattle.block_passes.specs.{IsPassLast}
use Rattle.block_passes.proofs.PlanSteps.{pass_kept, planned_more}
use Rattle.block_passes.proofs.plan.pass_steps.Goals as goal

pub pass_step-requires-clause-own : goal.pass_step-requires-clause-own
pass_step-requires-clause-own g c = (c.loop-own.own-index, read_pass (job_of c.args.job.now) c.loop_passes-passes.result.now c.loop_passes-passes.ensures.passes c.loop-own.own-index c.loop-own-test.true (record { result = 0; variation = None }))

pub loop-own-preserved : goal.loop-own-preserved
loop-own-preserved g c = λ chains are.
    let its = read_pass (job_of c.args.job.now) c.loop_passes-passes.result.now c.loop_passes-passes.ensures.passes c.loop-own.own-index c.loop-own-test.true (record { result = 0; variation = None }) in
    let h = c.loop-own.invariant chains are in
    planned_more _ (IsPassLast _) chains (pass_kept _) c.loop-own.steps c.pass_step.new.steps c.loop-own.own-index c.loop-own.last_steps c.push.new.self c.in_ok-last.last h
    c.in_ok-push.ensures.ok (c.in_ok-last.ensures (chains ++ h.more) c.loop-own.own-index h.are its)
