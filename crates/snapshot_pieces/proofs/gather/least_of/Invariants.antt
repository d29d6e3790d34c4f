use Rattle.snapshot_pieces.proofs.Least.{IsLeast}
use Rattle.snapshot_pieces.proofs.gather.least_of.Given as goal

abbrev pub invariant-loop-i : goal.invariant-loop-i
invariant-loop-i l = IsLeast l.finished l.i l.least

abbrev pub decreases-loop-i : goal.decreases-loop-i
decreases-loop-i l = l.i
