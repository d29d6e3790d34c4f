use Rattle.chain_files.proofs.Joinable.{accepted_can_join}
use Rattle.chain_files.proofs.laws.accepted_can_join.Goals as goal

pub returns : goal.returns
returns c = accepted_can_join
