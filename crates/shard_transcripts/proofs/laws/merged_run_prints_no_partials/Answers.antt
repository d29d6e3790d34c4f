use Rattle.shard_transcripts.proofs.WholeText.{merged_run_prints_no_partials}
use Rattle.shard_transcripts.proofs.laws.merged_run_prints_no_partials.Goals as goal

pub returns : goal.returns
returns c = merged_run_prints_no_partials
