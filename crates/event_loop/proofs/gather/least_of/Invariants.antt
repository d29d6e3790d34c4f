use Rattle.event_loop.proofs.Ended.{IsLeastFrom}
use Rattle.event_loop.proofs.gather.least_of.Given as goal

abbrev pub invariant-loop-i : goal.invariant-loop-i
invariant-loop-i l = IsLeastFrom l.finished l.i l.least

abbrev pub decreases-loop-i : goal.decreases-loop-i
decreases-loop-i l = l.i
