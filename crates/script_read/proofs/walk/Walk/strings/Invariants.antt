use Rattle.lemmas.proofs.{length, map}
use Rattle.script_read.specs.{left_of, quoted_of}
use Rattle.script_read.proofs.Walked.{strings, TookItems}
use Rattle.script_read.proofs.walk.Walk.strings.Given as goal

abbrev pub invariant-loop-self : goal.invariant-loop-self
invariant-loop-self l = TookItems strings (quoted_of l.first) (map quoted_of l.rest.items) (left_of l.fn.self) (left_of l.self)

abbrev pub decreases-loop-self : goal.decreases-loop-self
decreases-loop-self l = length (left_of l.self)
