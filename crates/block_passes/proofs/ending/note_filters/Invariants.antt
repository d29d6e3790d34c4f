use Rattle.block_passes.specs.{turn_job}
use Rattle.block_passes.proofs.Feeding.{IsNotedTo}
use Rattle.block_passes.proofs.ending.note_filters.Given as goal

abbrev pub invariant-loop-filter : goal.invariant-loop-filter
invariant-loop-filter g l = IsNotedTo (turn_job l.at) l.at.first l.at.count l.fn.tally l.filter l.tally
