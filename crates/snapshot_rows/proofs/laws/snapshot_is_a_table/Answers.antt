use Rattle.snapshot_rows.proofs.Tabled.{snapshot_is_a_table}
use Rattle.snapshot_rows.proofs.laws.snapshot_is_a_table.Goals as goal

pub returns : goal.returns
returns c = snapshot_is_a_table
