use Rattle.lemmas.proofs.{◌≡◌, ◌<◌, ◌+◌, ◌^◌, Some, take}
use Rattle.rdf_values.specs.{written_after}
use Rattle.rdf_values.proofs.tables.integer.leading_digits.Given as goal

abbrev pub invariant-loop-i : goal.invariant-loop-i
invariant-loop-i l = record { written : written_after 0 (take (l.i + 1) l.text) ≡ Some l.value; few : l.value < 10 ^ (l.i + 1) }
