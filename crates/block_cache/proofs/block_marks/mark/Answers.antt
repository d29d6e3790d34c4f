use Rattle.expr_lanes.proofs.Composed.{dense_long}
use Rattle.block_cache.proofs.LaneSteps.{whole_marked, whole_newly}
use Rattle.block_cache.proofs.block_marks.mark.Goals as goal

pub mark_first-requires : goal.mark_first-requires
mark_first-requires c = dense_long _ _ _ (c.in-Some.ensures {u = tt}) c.requires

pub returns-in-Some-clause-marked : goal.returns-in-Some-clause-marked
returns-in-Some-clause-marked c = rw c.mark_first.ensures (whole_marked _ _ _ (dense_long _ _ _ (c.in-Some.ensures {u = tt}) c.requires) (c.in-Some.ensures {u = tt}))

pub returns-in-Some-clause-newly : goal.returns-in-Some-clause-newly
returns-in-Some-clause-newly c = rw c.mark_first.ensures (whole_newly _ _ _ (dense_long _ _ _ (c.in-Some.ensures {u = tt}) c.requires) (c.in-Some.ensures {u = tt}))
