use Rattle.lemmas.proofs.{arith, fold_more, to_z-of_z}
use Rattle.actions.proofs.States.{fits_sum, sum_bound}
use Rattle.actions.proofs.folding.SummedFolds.take_in.Goals as goal
use Rattle.histograms.proofs.Filling.{abs_of_fit}

pub loop-number-preserved : goal.loop-number-preserved
loop-number-preserved = grind (arith, fits_sum, abs_of_fit, to_z-of_z, sum_bound, fold_more)
