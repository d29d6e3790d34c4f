use Rattle.lemmas.proofs.{subst}
use Rattle.snapshot_plan.specs.{IsPlan}
use Rattle.snapshot_plan.proofs.planning.SnapPlan.is_planned.Goals as goal

pub returns : goal.returns
returns c = subst IsPlan c.self.view_is c.self.invariant.0
