use Rattle.lemmas.proofs.{◌++◌}
use Rattle.loop_keys.specs.{job_of}
use Rattle.block_passes.specs.{IsFilterPlanned}
use Rattle.block_passes.proofs.PlanSteps.{filters_kept, planned_more}
use Rattle.block_passes.proofs.plan.filter_steps.Goals as goal

pub loop-filter-preserved : goal.loop-filter-preserved
loop-filter-preserved g c = λ chains are.
    let h = c.loop-filter.invariant chains are in
    planned_more (job_of c.args.job.now) (IsFilterPlanned (job_of c.args.job.now)) chains (filters_kept (job_of c.args.job.now)) c.loop-filter.steps c.filter_step.new.steps c.loop-filter.filter c.loop-filter.named c.push.new.self c.in_ok-own.own h
    c.in_ok-push.ensures.ok (c.in_ok-own.ensures (chains ++ h.more) h.are)
