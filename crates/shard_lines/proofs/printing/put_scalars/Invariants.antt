use Rattle.lemmas.proofs.{◌≡◌, ◌++◌, map, take}
use Rattle.shard_lines.specs.{scalar_word, spaced}
use Rattle.shard_lines.proofs.printing.put_scalars.Given as goal

abbrev pub invariant-loop-value : goal.invariant-loop-value
invariant-loop-value l = l.text ≡ l.fn.text ++ spaced (map scalar_word (take l.value-index l.values))
