use Rattle.chain_files.proofs.Covered.{covered_are_next}
use Rattle.chain_files.proofs.laws.covered_are_next.Goals as goal

pub returns : goal.returns
returns c = covered_are_next
