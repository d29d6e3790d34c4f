use Rattle.expr_lanes.proofs.Composed.{below_range, dense_each, dense_long, outside_range}
use Rattle.expr_lanes.proofs.kernel.cover_selected.Goals as goal

pub cover-requires-clause-can : goal.cover-requires-clause-can
cover-requires-clause-can g c = dense_each _ _ (g.K.Kernel.can c.args.kernel.now) (rw c.selection.view_is at (c.selection.invariant.1 c.if-selection.true)) c.requires.can

pub cover-requires-clause-long : goal.cover-requires-clause-long
cover-requires-clause-long g c = dense_long _ _ _ (rw c.selection.view_is at (c.selection.invariant.1 c.if-selection.true)) c.requires.inside

pub returns-then-selection-clause-values : goal.returns-then-selection-clause-values
returns-then-selection-clause-values g c =
    λ all p h. let dense = rw c.selection.view_is at (c.selection.invariant.1 c.if-selection.true) in c.cover.ensures.values all p (below_range _ p (rw dense at h))

pub returns-then-selection-clause-others : goal.returns-then-selection-clause-others
returns-then-selection-clause-others g c =
    λ p h. let dense = rw c.selection.view_is at (c.selection.invariant.1 c.if-selection.true) in c.cover.ensures.others p (outside_range _ p (rw dense at h))
