use Rattle.shard_files.proofs.OneShard.{a_text_is_of_one_shard}
use Rattle.shard_files.proofs.laws.a_text_is_of_one_shard.Goals as goal

pub returns : goal.returns
returns c = a_text_is_of_one_shard
