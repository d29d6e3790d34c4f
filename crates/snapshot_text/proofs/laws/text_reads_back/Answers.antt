use Rattle.snapshot_text.proofs.TextBack.{text_reads_back}
use Rattle.snapshot_text.proofs.laws.text_reads_back.Goals as goal

pub returns : goal.returns
returns c = text_reads_back
