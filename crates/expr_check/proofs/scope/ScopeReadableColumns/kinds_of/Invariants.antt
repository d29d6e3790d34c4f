use Rattle.lemmas.proofs.{◌≡◌, Ok, map, take}
use Rattle.rdf_values.specs.{ColType}
use Rattle.expr_check.specs.{number_kind, numbers_in}
use Rattle.expr_check.proofs.scope.ScopeReadableColumns.kinds_of.Given as goal

abbrev pub invariant-loop-number : goal.invariant-loop-number
invariant-loop-number l = map (λ (k : ColType). Ok k) l.kinds.items ≡ map (number_kind (numbers_in l.self)) (take l.number-index l.numbers)
