use Rattle.chain_files.proofs.Keeping.{joined_keeps_shape}
use Rattle.chain_files.proofs.laws.joined_keeps_shape.Goals as goal

pub returns : goal.returns
returns c = joined_keeps_shape
