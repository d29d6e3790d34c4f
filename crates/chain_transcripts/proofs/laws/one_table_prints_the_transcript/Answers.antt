use Rattle.chain_transcripts.proofs.WholeText.{one_table_prints_the_transcript}
use Rattle.chain_transcripts.proofs.laws.one_table_prints_the_transcript.Goals as goal

pub returns : goal.returns
returns c = one_table_prints_the_transcript
