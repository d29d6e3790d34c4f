use Rattle.columns.proofs.Clusters.{Walked}
use Rattle.columns.proofs.marked.ends.Given as goal

abbrev pub invariant-loop-entry : goal.invariant-loop-entry
invariant-loop-entry l = Walked l.entries l.size l.marks l.ends l.lo l.entry l.next
