use Rattle.lemmas.proofs.{arith}
use Rattle.block_cache.proofs.LaneSteps.{begun_more}
use Rattle.block_cache.proofs.lanes.begin_block.Goals as goal

pub loop-i-preserved : goal.loop-i-preserved
loop-i-preserved c = begun_more _ _ _ _ _ c.index-lanes-i.result c.loop-i.invariant (omega (arith, c.loop-i.invariant.many)) c.begin.ensures.same c.begin.ensures.unknown
