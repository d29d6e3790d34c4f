use Rattle.shard_runs.proofs.Merged.{only_cover_is_refused}
use Rattle.shard_runs.proofs.laws.only_cover_is_refused.Goals as goal

pub returns : goal.returns
returns c = only_cover_is_refused
