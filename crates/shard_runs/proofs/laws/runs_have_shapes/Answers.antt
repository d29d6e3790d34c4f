use Rattle.shard_runs.proofs.Shapes.{runs_have_shapes}
use Rattle.shard_runs.proofs.laws.runs_have_shapes.Goals as goal

pub returns : goal.returns
returns c = runs_have_shapes
