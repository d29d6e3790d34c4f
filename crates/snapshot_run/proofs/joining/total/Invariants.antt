use Rattle.lemmas.proofs.{◌≡◌, ◌+◌, length, take, flat_map}
use Rattle.snapshot_run.proofs.joining.total.Given as goal

abbrev pub invariant-loop-text : goal.invariant-loop-text
invariant-loop-text l = l.total ≡ l.fn.first + length (flat_map (λ t. t) (take l.text-index l.texts))
