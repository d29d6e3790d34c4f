use Rattle.shard_runs.proofs.Merged.{written_runs_merge_to_one_run}
use Rattle.shard_runs.proofs.laws.written_runs_merge_to_one_run.Goals as goal

pub returns : goal.returns
returns c = written_runs_merge_to_one_run
