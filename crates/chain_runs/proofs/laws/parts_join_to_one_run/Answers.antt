use Rattle.chain_runs.proofs.Groups.{parts_join_to_one_run}
use Rattle.chain_runs.proofs.laws.parts_join_to_one_run.Goals as goal

pub returns : goal.returns
returns c = parts_join_to_one_run
