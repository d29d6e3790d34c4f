use Rattle.block_cache.specs.{IsUnderwayFor, left_to_begin}
use Rattle.block_cache.proofs.fill.+fill_site.Given as goal

abbrev pub decreases-fill_site : goal.decreases-fill_site
decreases-fill_site g l = l.wanted.now.site

abbrev pub invariant-loop-level : goal.invariant-loop-level
invariant-loop-level g l = IsUnderwayFor l.wanted l.selection l.fn.lanes l.fn.steps l.lanes l.fault l.level.lacking l.level.needs l.steps

abbrev pub decreases-loop-level : goal.decreases-loop-level
decreases-loop-level g l = left_to_begin l.wanted.block.now.count l.lanes
