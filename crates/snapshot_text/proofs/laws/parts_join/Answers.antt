use Rattle.snapshot_text.proofs.TextBack.{parts_join}
use Rattle.snapshot_text.proofs.laws.parts_join.Goals as goal

pub returns : goal.returns
returns c = parts_join
