use Rattle.shard_transcripts.proofs.WholeText.{shards_merge_to_the_transcript}
use Rattle.shard_transcripts.proofs.laws.shards_merge_to_the_transcript.Goals as goal

pub returns : goal.returns
returns c = shards_merge_to_the_transcript
