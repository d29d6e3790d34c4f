use Rattle.lemmas.proofs.{rules, ◌≡◌, ◌<◌, length, get_or, arith}
use Rattle.std.proofs.lemmas.List.{get_or_default}
use Rattle.expr_lanes.proofs.Composed.{read_in, sift_given, sift_stopped, sifted}
use Rattle.expr_lanes.proofs.kernel.sift.Goals as goal
use Rattle.expr_lanes.proofs.kernel.sift.Goals.{in-Ok, in-Err}

pub at-requires : goal.at-requires
at-requires g c = c.requires.can _ (read_in c.args.places.now c.loop-i.places c.args.count c.loop-i.i 0 c.loop-i.invariant.front.rest (omega arith) (omega arith))

pub bounds-lane-place : goal.bounds-lane-place
bounds-lane-place = grind (arith, read_in)

pub loop-i-preserved : goal.loop-i-preserved
loop-i-preserved g c =
    let below : c.loop-i.i < length c.loop-i.places = omega arith in
    let read : get_or c.loop-i.places c.loop-i.i 0 ≡ get_or c.loop-i.places c.loop-i.i (get_or c.loop-i.places c.loop-i.i 0) = get_or_default c.loop-i.places c.loop-i.i 0 (get_or c.loop-i.places c.loop-i.i 0) below in
    let inside : get_or c.loop-i.places c.loop-i.i 0 < length c.args.lane.now = c.requires.inside _ (read_in c.args.places.now c.loop-i.places c.args.count c.loop-i.i 0 c.loop-i.invariant.front.rest (omega arith) (omega arith)) in
    elim c.match-at.branch [
      | in-Ok w ↦ rw (w.places-is, w.lane-is, w.stops-is, w.kept-is) (sift_given _ _ _ _ _ _ _ _ _ _ _ c.loop-i.invariant (omega arith) c.requires.count read _ (search rules) (omega arith))
      | in-Err w ↦ rw (w.places-is, w.lane-is, w.stops-is, w.kept-is, w.push.ensures.items) (sift_stopped _ _ _ _ _ _ _ _ _ _ _ c.loop-i.invariant (omega arith) c.requires.count read _ w.in-Err.ensures)
    ]

pub returns-clause-evaluated : goal.returns-clause-evaluated
returns-clause-evaluated g c = sifted _ _ _ _ _ _ _ _ _ _ c.loop-i.invariant (omega arith)
