use Rattle.cluster_tally.proofs.Closing.{AreClosedTo}
use Rattle.cluster_tally.proofs.tally.close_all.Given as goal

abbrev pub invariant-loop-i : goal.invariant-loop-i
invariant-loop-i l = AreClosedTo l.cluster l.fn.watched l.fn.trails l.i l.trail l.watched l.trails
