use Rattle.snapshot_due.proofs.ReadBack.{snapshot_reads_back}
use Rattle.snapshot_due.proofs.laws.snapshot_reads_back.Goals as goal

pub returns : goal.returns
returns c = snapshot_reads_back
