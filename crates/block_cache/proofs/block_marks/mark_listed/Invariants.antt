use Rattle.block_cache.proofs.LaneSteps.{IsMarkedTo}
use Rattle.block_cache.proofs.block_marks.mark_listed.Given as goal

abbrev pub invariant-loop-i : goal.invariant-loop-i
invariant-loop-i l = IsMarkedTo l.places l.initial.marks l.marks l.i
