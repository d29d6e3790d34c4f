use Rattle.lemmas.proofs.{List}
use Rattle.loop_keys.specs.{job_of}
use Rattle.block_passes.specs.{ArePlanned, AreSteps, Chain, IsFilterPlanned}
use Rattle.block_passes.proofs.plan.filter_steps.Given as goal

-- the filters so far have their steps
abbrev pub invariant-loop-filter : goal.invariant-loop-filter
invariant-loop-filter g l = (chains : List Chain) → AreSteps chains l.fn.steps → ArePlanned (job_of l.job) (IsFilterPlanned (job_of l.job)) chains l.steps l.filter l.named
