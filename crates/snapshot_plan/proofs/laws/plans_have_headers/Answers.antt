use Rattle.snapshot_plan.proofs.Headed.{plans_have_headers}
use Rattle.snapshot_plan.proofs.laws.plans_have_headers.Goals as goal

pub returns : goal.returns
returns c = plans_have_headers
