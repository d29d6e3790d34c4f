use Rattle.expr_lanes.proofs.Composed.{SiftedTo}
use Rattle.expr_lanes.proofs.kernel.sift.Given as goal

abbrev pub invariant-loop-i : goal.invariant-loop-i
invariant-loop-i g l = SiftedTo (g.K.Kernel.gives l.kernel) l.count l.initial.places l.places l.initial.lane l.lane l.initial.stops.items l.stops.items l.kept l.i
