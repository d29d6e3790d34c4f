use Rattle.shard_lines.proofs.ReadBack.{read_lines_fit}
use Rattle.shard_lines.proofs.laws.read_lines_fit.Goals as goal

pub returns : goal.returns
returns c = read_lines_fit
