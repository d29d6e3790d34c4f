use Rattle.chain_files.proofs.Keeping.{joined_is_part}
use Rattle.chain_files.proofs.laws.joined_is_part.Goals as goal

pub returns : goal.returns
returns c = joined_is_part
