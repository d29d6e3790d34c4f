use Rattle.lemmas.proofs.{arith, refl}
use Rattle.expr_lanes.proofs.Composed.{read_in}
use Rattle.expr_lanes.proofs.parting.part_places.Goals as goal

pub bounds-lane-place : goal.bounds-lane-place
bounds-lane-place c = c.requires.inside _ (read_in c.args.places.now c.args.places.now c.args.count c.loop-i.i 0 refl (omega arith) (omega arith))
