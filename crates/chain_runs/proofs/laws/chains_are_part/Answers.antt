use Rattle.chain_runs.proofs.Parts.{chains_are_part}
use Rattle.chain_runs.proofs.laws.chains_are_part.Goals as goal

pub returns : goal.returns
returns c = chains_are_part
