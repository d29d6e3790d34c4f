use Rattle.block_cache.proofs.LaneSteps.{AreMade}
use Rattle.block_cache.proofs.lanes.new_lanes.Given as goal

abbrev pub invariant-loop-i : goal.invariant-loop-i
invariant-loop-i l = AreMade l.kinds l.room l.i l.lanes.items
