use Rattle.lemmas.proofs.{arith}
use Rattle.rdf_values.proofs.KeptLemmas.{keep, length-rows_kept}
use Rattle.columns.proofs.columns.Columns.build_in_slots.Goals as goal

pub keep_in_slots-requires : goal.keep_in_slots-requires
keep_in_slots-requires = grind (arith, length-rows_kept, keep)

pub invariant_of-result : goal.invariant_of-result
invariant_of-result = grind (arith, length-rows_kept)

pub returns : goal.returns
returns = grind (arith, length-rows_kept)
