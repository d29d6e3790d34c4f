use Rattle.lemmas.proofs.{List, take}
use Rattle.block_passes.specs.{AreSteps, Chain, IsLed}
use Rattle.block_passes.proofs.plan.path_steps.Given as goal

-- the filters so far have steps
abbrev pub invariant-loop-site : goal.invariant-loop-site
invariant-loop-site l = (chains : List Chain) → AreSteps chains l.fn.steps → IsLed chains (take l.site-index l.path) l.under l.steps l.last
