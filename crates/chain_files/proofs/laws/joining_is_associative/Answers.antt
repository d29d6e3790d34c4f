use Rattle.chain_files.proofs.Grouping.{joining_is_associative}
use Rattle.chain_files.proofs.laws.joining_is_associative.Goals as goal

pub returns : goal.returns
returns c = joining_is_associative
