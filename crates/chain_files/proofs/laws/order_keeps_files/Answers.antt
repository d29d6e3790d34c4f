use Rattle.chain_files.proofs.Covered.{order_keeps_files}
use Rattle.chain_files.proofs.laws.order_keeps_files.Goals as goal

pub returns : goal.returns
returns c = order_keeps_files
