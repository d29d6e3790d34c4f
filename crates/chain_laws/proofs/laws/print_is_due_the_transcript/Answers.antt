use Rattle.chain_laws.proofs.Printing.{print_is_due_the_transcript}
use Rattle.chain_laws.proofs.laws.print_is_due_the_transcript.Goals as goal

pub returns : goal.returns
returns c = print_is_due_the_transcript
