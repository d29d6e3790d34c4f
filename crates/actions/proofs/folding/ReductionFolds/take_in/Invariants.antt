use Rattle.lemmas.proofs.{◌≡◌, take, fold}
use Rattle.rdf_values.specs.{reduce_step}
use Rattle.actions.proofs.folding.ReductionFolds.take_in.Given as goal

abbrev pub invariant-loop-number : goal.invariant-loop-number
invariant-loop-number l = record {
  reduced : l.value ≡ fold (reduce_step l.op) l.initial.value (take l.number-index l.numbers);
}
