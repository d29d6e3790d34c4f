use Rattle.lemmas.proofs.{◌∙◌, arith}
use Rattle.expr_lanes.proofs.Composed.{rejoined, rejoined_as, rising_left}
use Rattle.expr_lanes.proofs.parting.rejoin.Goals as goal

pub returns : goal.returns
returns c =
    rejoined_as _ _ _ _ _ _ _ c.selection.view_is c.zeros.view_is c.others.view_is
    (c.keep_places-selection-inside.ensures.kept ∙ rejoined _ _ _ _ _ _ _ c.mark_places.ensures c.mark_places-2.ensures c.mark_places-3.ensures)

pub invariant_of-selection : goal.invariant_of-selection
invariant_of-selection c = (omega (arith, c.selection.invariant.0, c.keep_places-selection-inside.ensures.within), λ all. absurd (cc all), rising_left _ _ _ c.selection.invariant.2 c.keep_places-selection-inside.ensures.kept)
