use Rattle.lemmas.proofs.{◌≡◌, ◌<◌, arith, get_or, length}
use Rattle.std.proofs.lemmas.List.{get_or_default}
use Rattle.expr_lanes.proofs.Composed.{is_in_at}
use Rattle.block_cache.proofs.LaneSteps.{turned_more}
use Rattle.block_cache.proofs.each_place.each_place.Goals as goal

pub at-answer-requires-clause-inside : goal.at-answer-requires-clause-inside
at-answer-requires-clause-inside g c = (c.requires.fit _ (is_in_at c.args.places.now c.loop-i.i 0 (omega arith))).0

pub at-answer-requires-clause-fit : goal.at-answer-requires-clause-fit
at-answer-requires-clause-fit g c = (c.requires.fit _ (is_in_at c.args.places.now c.loop-i.i 0 (omega arith))).1

pub turn-requires-clause-inside : goal.turn-requires-clause-inside
turn-requires-clause-inside g c = let h = c.requires.inside _ (is_in_at c.args.places.now c.loop-i.i 0 (omega arith)) in omega (arith, h, c.loop-i.invariant.0.written.long)

pub turn-requires-clause-marks : goal.turn-requires-clause-marks
turn-requires-clause-marks g c = let h = c.requires.marks _ (is_in_at c.args.places.now c.loop-i.i 0 (omega arith)) in omega (arith, h, c.loop-i.invariant.0.many)

pub loop-i-preserved : goal.loop-i-preserved
loop-i-preserved g c =
    let inside : c.loop-i.i < length c.args.places.now = omega arith in
    let read : get_or c.args.places.now c.loop-i.i 0 ≡ get_or c.args.places.now c.loop-i.i (get_or c.args.places.now c.loop-i.i 0) = get_or_default c.args.places.now c.loop-i.i 0 (get_or c.args.places.now c.loop-i.i 0) inside in (
      turned_more _ _ c.args.places.now _ _ _ _ _ _ _ _ _ _ _ _ c.loop-i.i (get_or c.args.places.now c.loop-i.i 0) c.loop-i.invariant.0 inside read c.turn.ensures.written (c.in_ok-turn.ensures.turned _ _ c.at-answer.ensures.value c.at-answer.ensures.kind),
      omega (arith, c.loop-i.invariant.1, c.at-answer.ensures.step),
    )
