use Rattle.shard_spans.proofs.Shards.{shards_join_to_one_run}
use Rattle.shard_spans.proofs.laws.shards_join_to_one_run.Goals as goal

pub returns : goal.returns
returns c = shards_join_to_one_run
