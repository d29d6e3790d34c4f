use Rattle.shard_runs.proofs.Runs.{runs_are_shards}
use Rattle.shard_runs.proofs.laws.runs_are_shards.Goals as goal

pub returns : goal.returns
returns c = runs_are_shards
