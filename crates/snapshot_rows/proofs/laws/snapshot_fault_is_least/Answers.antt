use Rattle.snapshot_rows.proofs.Faulted.{snapshot_fault_is_least}
use Rattle.snapshot_rows.proofs.laws.snapshot_fault_is_least.Goals as goal

pub returns : goal.returns
returns c = snapshot_fault_is_least
