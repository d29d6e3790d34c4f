use Rattle.chain_runs.proofs.Faults.{fault_is_of_the_rows}
use Rattle.chain_runs.proofs.laws.fault_is_of_the_rows.Goals as goal

pub returns : goal.returns
returns c = fault_is_of_the_rows
