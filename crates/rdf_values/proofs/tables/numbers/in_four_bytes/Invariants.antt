use Rattle.lemmas.proofs.{◌≡◌, take}
use Rattle.rdf_values.proofs.tables.numbers.in_four_bytes.Given as goal

abbrev pub invariant-loop-item : goal.invariant-loop-item
invariant-loop-item l = l.wide.items ≡ take l.item-index l.items
