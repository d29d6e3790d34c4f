use Rattle.lemmas.proofs.{◌≡◌, ◌++◌, take}
use Rattle.rdf_values.proofs.tables.numbers.Numbers.push_each.Given as goal

abbrev pub invariant-loop-place : goal.invariant-loop-place
invariant-loop-place l = l.self ≡ l.initial.self ++ take l.place l.more
