use Rattle.shard_due.proofs.Merging.{merging_is_due_the_transcript}
use Rattle.shard_due.proofs.laws.merging_is_due_the_transcript.Goals as goal

pub returns : goal.returns
returns c = merging_is_due_the_transcript
