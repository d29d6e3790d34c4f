use Rattle.chain_runs.proofs.Shapes.{chains_have_shapes}
use Rattle.chain_runs.proofs.laws.chains_have_shapes.Goals as goal

pub returns : goal.returns
returns c = chains_have_shapes
