use Rattle.chain_files.proofs.Grouping.{groups_are_free}
use Rattle.chain_files.proofs.laws.groups_are_free.Goals as goal

pub returns : goal.returns
returns c = groups_are_free
