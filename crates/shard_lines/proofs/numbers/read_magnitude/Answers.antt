use Rattle.lemmas.proofs.{rules}
use Rattle.rdf_values.specs.{magnitude_of}
use Rattle.shard_lines.proofs.numbers.read_magnitude.Goals as goal

pub returns-then-begins_badly-clause-value : goal.returns-then-begins_badly-clause-value
unfolding magnitude_of
returns-then-begins_badly-clause-value c = search rules

pub returns-clause-value : goal.returns-clause-value
unfolding magnitude_of
returns-clause-value c = search rules
