use Rattle.lemmas.proofs.{◌≡◌, take}
use Rattle.expr_check.specs.{distinct}
use Rattle.expr_check.proofs.reads.distinct.Given as goal

abbrev pub invariant-loop-number : goal.invariant-loop-number
invariant-loop-number l = l.seen.items ≡ distinct (take l.number-index l.numbers)
