use Rattle.chain_transcripts.proofs.WholeText.{chain_prints_the_transcript}
use Rattle.chain_transcripts.proofs.laws.chain_prints_the_transcript.Goals as goal

pub returns : goal.returns
returns c = chain_prints_the_transcript
