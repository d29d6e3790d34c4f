use Rattle.lemmas.proofs.{◌≡◌, ◌≤◌, drop}
use Rattle.rdf_values.specs.{digits_up_to}
use Rattle.shard_lines.proofs.numbers.read_digits.Given as goal

abbrev pub invariant-loop-b : goal.invariant-loop-b
invariant-loop-b l = (digits_up_to l.most 0 l.digits ≡ digits_up_to l.most l.value (drop l.b-index l.digits)) × (l.value ≤ l.most)
