use Rattle.block_cache.proofs.LaneSteps.{all_seen, none_newly}
use Rattle.block_cache.proofs.block_marks.BlockMarks.mark.Goals as goal

pub returns-in-All-clause-newly : goal.returns-in-All-clause-newly
returns-in-All-clause-newly c = none_newly _ _ (λ p i. all_seen _ _ _ _ c.self.view_is c.self.invariant c.in-All.is p (c.requires p i))
