use Rattle.block_cache.proofs.attempt.try_lane.Goals as goal

pub returns-clause-tried : goal.returns-clause-tried
returns-clause-tried g c = rw c.split_at_mut-below.ensures.value c.try_first.ensures.tried

pub returns-clause-begun : goal.returns-clause-begun
returns-clause-begun g c = rw c.split_at_mut-below.ensures.value c.try_first.ensures.begun
