use Rattle.chain_files.proofs.Covered.{least_is_uncovered}
use Rattle.chain_files.proofs.laws.least_is_uncovered.Goals as goal

pub returns : goal.returns
returns c = least_is_uncovered
