use Rattle.lemmas.proofs.{List}
use Rattle.loop_keys.specs.{job_of}
use Rattle.block_passes.specs.{ArePlanned, AreSteps, Chain, IsPassLast}
use Rattle.block_passes.proofs.plan.pass_steps.Given as goal

-- the passes so far have their last steps
abbrev pub invariant-loop-own : goal.invariant-loop-own
invariant-loop-own g l = (chains : List Chain) → AreSteps chains l.fn.steps → ArePlanned (job_of l.job) (IsPassLast (job_of l.job)) chains l.steps l.own-index l.last_steps
