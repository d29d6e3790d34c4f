use Rattle.lemmas.proofs.{◌≡◌}
use Rattle.graph.specs.{count_from}
use Rattle.graph.proofs.lookup.numbers.Given as goal

abbrev pub invariant-loop-i : goal.invariant-loop-i
invariant-loop-i l = l.list ≡ count_from l.first l.i
