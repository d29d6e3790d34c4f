use Rattle.shard_runs.proofs.Merged.{runs_merge_to_one_run}
use Rattle.shard_runs.proofs.laws.runs_merge_to_one_run.Goals as goal

pub returns : goal.returns
returns c = runs_merge_to_one_run
