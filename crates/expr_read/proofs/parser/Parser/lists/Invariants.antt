use Rattle.lemmas.proofs.{length}
use Rattle.expr_read.specs.{left_of, Listings}
use Rattle.expr_read.proofs.parser.Parser.lists.Given as goal

abbrev pub invariant-loop-lists : goal.invariant-loop-lists
invariant-loop-lists l = Listings l.lists (left_of l.fn.self) (left_of l.self)

abbrev pub decreases-loop-lists : goal.decreases-loop-lists
decreases-loop-lists l = length (left_of l.self)
