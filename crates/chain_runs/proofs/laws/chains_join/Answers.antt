use Rattle.chain_runs.proofs.Joining.{chains_join}
use Rattle.chain_runs.proofs.laws.chains_join.Goals as goal

pub returns : goal.returns
returns c = chains_join
