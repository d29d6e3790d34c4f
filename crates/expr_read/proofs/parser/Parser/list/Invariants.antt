use Rattle.lemmas.proofs.{length}
use Rattle.expr_read.specs.{left_of, Listing}
use Rattle.expr_read.proofs.parser.Parser.list.Given as goal

abbrev pub invariant-loop-items : goal.invariant-loop-items
invariant-loop-items l = Listing l.items (left_of l.fn.self) (left_of l.self)

abbrev pub decreases-loop-items : goal.decreases-loop-items
decreases-loop-items l = length (left_of l.self)
