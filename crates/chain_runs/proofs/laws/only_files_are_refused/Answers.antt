use Rattle.chain_runs.proofs.Groups.{only_files_are_refused}
use Rattle.chain_runs.proofs.laws.only_files_are_refused.Goals as goal

pub returns : goal.returns
returns c = only_files_are_refused
