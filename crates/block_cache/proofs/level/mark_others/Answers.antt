use Rattle.lemmas.proofs.{◌<◌, arith, get_or, length, nat_eq, not}
use Rattle.expr_lanes.proofs.Composed.{is_in_at}
use Rattle.block_cache.specs.{need_at}
use Rattle.block_cache.proofs.LaneSteps.{marked_at}
use Rattle.block_cache.proofs.level.mark_others.Goals as goal

pub bounds-needs-place : goal.bounds-needs-place
bounds-needs-place c = c.requires.needs (get_or c.args.places.now c.loop-i.i 0) (is_in_at c.args.places.now c.loop-i.i 0 c.loop-i-test.true)

pub bounds-others-place : goal.bounds-others-place
bounds-others-place c =
    let low : get_or c.args.places.now c.loop-i.i 0 < length c.args.others.now = c.requires.others (get_or c.args.places.now c.loop-i.i 0) (is_in_at c.args.places.now c.loop-i.i 0 c.loop-i-test.true) in omega (arith, low, c.loop-i.auto.others)

pub loop-i-preserved : goal.loop-i-preserved
loop-i-preserved c =
    let low : get_or c.args.places.now c.loop-i.i 0 < length c.args.others.now = c.requires.others (get_or c.args.places.now c.loop-i.i 0) (is_in_at c.args.places.now c.loop-i.i 0 c.loop-i-test.true) in
    marked_at c.args.places.now c.loop-i.i c.loop-i.others (λ p. not (nat_eq (need_at c.args.needs.now p) c.args.version)) c.loop-i-test.true c.loop-i.invariant (omega (arith, low, c.loop-i.auto.others))
