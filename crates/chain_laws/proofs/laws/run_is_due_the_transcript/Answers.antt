use Rattle.chain_laws.proofs.Running.{run_is_due_the_transcript}
use Rattle.chain_laws.proofs.laws.run_is_due_the_transcript.Goals as goal

pub returns : goal.returns
returns c = run_is_due_the_transcript
