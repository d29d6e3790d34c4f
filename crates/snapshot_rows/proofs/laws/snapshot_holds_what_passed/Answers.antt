use Rattle.snapshot_rows.proofs.Entries.{snapshot_holds_what_passed}
use Rattle.snapshot_rows.proofs.laws.snapshot_holds_what_passed.Goals as goal

pub returns : goal.returns
returns c = snapshot_holds_what_passed
