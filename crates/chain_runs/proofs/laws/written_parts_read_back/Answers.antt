use Rattle.chain_runs.proofs.Parts.{written_parts_read_back}
use Rattle.chain_runs.proofs.laws.written_parts_read_back.Goals as goal

pub returns : goal.returns
returns c = written_parts_read_back
