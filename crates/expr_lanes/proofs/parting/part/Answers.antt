use Rattle.lemmas.proofs.{arith}
use Rattle.expr_lanes.proofs.parting.part.Goals as goal
use Rattle.expr_lanes.proofs.Composed.{rising_left}

pub invariant_of-zeros : goal.invariant_of-zeros
invariant_of-zeros c = (omega (arith, c.selection.invariant.0), λ all. absurd (cc all), rising_left _ _ _ c.selection.invariant.2 c.part_places-parted.ensures.zeros)

pub invariant_of-others : goal.invariant_of-others
invariant_of-others c = (omega (arith, c.selection.invariant.0, c.part_places-parted.ensures.within), λ all. absurd (cc all), rising_left _ _ _ c.selection.invariant.2 c.part_places-parted.ensures.others)
