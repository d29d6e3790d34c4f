use Rattle.expr_lanes.proofs.Composed.{rising_range}
use Rattle.expr_lanes.proofs.selection.Selection.select_first.Goals as goal

pub invariant_of-self : goal.invariant_of-self
invariant_of-self c = (c.requires, λ all. c.number_places.ensures, rising_range _ _ c.number_places.ensures)
