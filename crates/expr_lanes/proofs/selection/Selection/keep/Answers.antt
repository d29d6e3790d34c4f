use Rattle.lemmas.proofs.{arith}
use Rattle.expr_lanes.proofs.Composed.{dense_left, rising_left}
use Rattle.expr_lanes.proofs.selection.Selection.keep.Goals as goal
use Rattle.expr_lanes.proofs.selection.Selection.keep.Goals.{then-self, else-self}

pub invariant_of-self : goal.invariant_of-self
invariant_of-self = grind (arith, then-self, dense_left, else-self, rising_left)
