use Rattle.block_passes.proofs.select.+select_step.Given as goal

abbrev pub decreases-select_step : goal.decreases-select_step
decreases-select_step g l = l.step
