use Rattle.lemmas.proofs.{arith}
use Rattle.expr_lanes.proofs.Composed.{covered, sifted_anew, rising_left}
use Rattle.expr_lanes.proofs.kernel.run.Goals as goal

pub returns-then-cover_selected : goal.returns-then-cover_selected
returns-then-cover_selected g c = covered _ _ _ _ _ (c.cover_selected.ensures.values c.if-cover_selected.true) c.cover_selected.ensures.others

pub returns : goal.returns
returns = grind (arith, sifted_anew)

pub invariant_of-selection : goal.invariant_of-selection
invariant_of-selection = grind (arith, rising_left)
