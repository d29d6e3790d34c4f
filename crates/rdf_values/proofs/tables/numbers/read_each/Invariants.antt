use Rattle.lemmas.proofs.{◌≡◌, map, take}
use Rattle.rdf_values.proofs.tables.numbers.read_each.Given as goal

abbrev pub invariant-loop-place : goal.invariant-loop-place
invariant-loop-place g l = take l.place l.numbers ≡ map g.T.Narrow.number (take l.place l.items)
