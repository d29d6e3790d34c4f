use Rattle.lemmas.proofs.{length}
use Rattle.script_read.specs.{left_of}
use Rattle.script_read.proofs.Walked.{edges, TookItems}
use Rattle.script_read.proofs.walk.Walk.edges.Given as goal

abbrev pub invariant-loop-self : goal.invariant-loop-self
invariant-loop-self l = TookItems edges l.first l.rest.items (left_of l.fn.self) (left_of l.self)

abbrev pub decreases-loop-self : goal.decreases-loop-self
decreases-loop-self l = length (left_of l.self)
