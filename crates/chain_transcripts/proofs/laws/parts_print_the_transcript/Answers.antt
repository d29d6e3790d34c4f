use Rattle.chain_transcripts.proofs.WholeText.{parts_print_the_transcript}
use Rattle.chain_transcripts.proofs.laws.parts_print_the_transcript.Goals as goal

pub returns : goal.returns
returns c = parts_print_the_transcript
