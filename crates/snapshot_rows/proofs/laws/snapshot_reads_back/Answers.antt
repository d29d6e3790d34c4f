use Rattle.snapshot_rows.proofs.Tabled.{snapshot_reads_back}
use Rattle.snapshot_rows.proofs.laws.snapshot_reads_back.Goals as goal

pub returns : goal.returns
returns c = snapshot_reads_back
