use Rattle.shard_runs.proofs.Merged.{written_runs_read_back}
use Rattle.shard_runs.proofs.laws.written_runs_read_back.Goals as goal

pub returns : goal.returns
returns c = written_runs_read_back
