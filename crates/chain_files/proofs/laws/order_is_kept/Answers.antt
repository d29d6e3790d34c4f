use Rattle.chain_files.proofs.Covered.{order_is_kept}
use Rattle.chain_files.proofs.laws.order_is_kept.Goals as goal

pub returns : goal.returns
returns c = order_is_kept
