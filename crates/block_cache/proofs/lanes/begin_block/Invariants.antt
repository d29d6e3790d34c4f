use Rattle.block_cache.proofs.LaneSteps.{AreBegunTo}
use Rattle.block_cache.proofs.lanes.begin_block.Given as goal

abbrev pub invariant-loop-i : goal.invariant-loop-i
invariant-loop-i l = AreBegunTo l.count l.initial.lanes l.i l.lanes
