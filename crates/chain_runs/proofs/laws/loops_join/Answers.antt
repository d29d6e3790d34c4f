use Rattle.chain_runs.proofs.Joining.{loops_join}
use Rattle.chain_runs.proofs.laws.loops_join.Goals as goal

pub returns : goal.returns
returns c = loops_join
