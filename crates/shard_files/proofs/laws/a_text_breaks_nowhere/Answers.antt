use Rattle.shard_files.proofs.OneShard.{a_text_breaks_nowhere}
use Rattle.shard_files.proofs.laws.a_text_breaks_nowhere.Goals as goal

pub returns : goal.returns
returns c = a_text_breaks_nowhere
