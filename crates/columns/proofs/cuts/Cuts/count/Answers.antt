use Rattle.lemmas.proofs.{arith}
use Rattle.columns.proofs.Clusters.{is_even, length-even}
use Rattle.columns.proofs.cuts.Cuts.count.Goals as goal

pub returns-in-Even-clause-value : goal.returns-in-Even-clause-value
returns-in-Even-clause-value = grind (arith, is_even, length-even)
