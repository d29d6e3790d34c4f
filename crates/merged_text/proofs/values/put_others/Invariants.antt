use Rattle.lemmas.proofs.{◌≡◌, ◌++◌, take}
use Rattle.result_text.specs.{more_taken}
use Rattle.merged_text.proofs.values.put_others.Given as goal

abbrev pub invariant-loop-value : goal.invariant-loop-value
invariant-loop-value l = l.text ≡ l.fn.text ++ more_taken (take l.value-index l.values)
