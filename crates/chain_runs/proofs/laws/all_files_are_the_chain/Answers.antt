use Rattle.chain_runs.proofs.Joining.{all_files_are_the_chain}
use Rattle.chain_runs.proofs.laws.all_files_are_the_chain.Goals as goal

pub returns : goal.returns
returns c = all_files_are_the_chain
