use Rattle.lemmas.proofs.{arith}
use Rattle.block_cache.proofs.LaneSteps.{made_more}
use Rattle.block_cache.proofs.lanes.new_lanes.Goals as goal

pub loop-i-preserved : goal.loop-i-preserved
loop-i-preserved c = rw c.in_ok-push.ensures.items (made_more _ _ _ _ _ _ c.loop-i.invariant (omega arith) c.in_ok-new.ensures.kind c.in_ok-new.ensures.room c.in_ok-new.ensures.unknown)
