use Rattle.lemmas.proofs.{◌≡◌, ◌++◌, take, flat_map}
use Rattle.snapshot_run.proofs.joining.put_texts.Given as goal

abbrev pub invariant-loop-text : goal.invariant-loop-text
invariant-loop-text l = l.whole ≡ l.fn.whole ++ flat_map (λ t. t) (take l.text-index l.texts)
