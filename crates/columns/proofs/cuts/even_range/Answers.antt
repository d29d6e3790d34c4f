use Rattle.lemmas.proofs.{arith}
use Rattle.columns.proofs.Clusters.{length-even, even_at, starts_below}
use Rattle.columns.proofs.cuts.even_range.Goals as goal

pub overflow_mul-lo : goal.overflow_mul-lo
overflow_mul-lo = grind (arith, length-even, starts_below)

pub overflow_sub-entries : goal.overflow_sub-entries
overflow_sub-entries = grind (arith, length-even, starts_below)

pub overflow_add-hi : goal.overflow_add-hi
overflow_add-hi = grind (arith, length-even, starts_below)

pub returns : goal.returns
returns = grind (arith, length-even, starts_below, even_at)
