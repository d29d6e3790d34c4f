use Rattle.lemmas.proofs.{◌<◌, arith, refl, get_or, length}
use Rattle.block_cache.proofs.LaneSteps.{mark_one}
use Rattle.expr_lanes.proofs.Composed.{is_in_at}
use Rattle.block_cache.proofs.block_marks.mark_listed.Goals as goal

pub bounds-marks-places : goal.bounds-marks-places
bounds-marks-places c =
    let inside : get_or c.args.places.now c.loop-i.i 0 < length c.args.marks.now = c.requires.inside _ (is_in_at c.args.places.now c.loop-i.i 0 (omega arith)) in
    omega (arith, c.loop-i.invariant.long)

pub loop-i-preserved : goal.loop-i-preserved
loop-i-preserved c = mark_one _ _ _ _ _ c.loop-i.invariant c.requires.rising (omega arith) refl (c.requires.inside _ (is_in_at c.args.places.now c.loop-i.i 0 (omega arith)))
