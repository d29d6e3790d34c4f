use Rattle.lemmas.proofs.{◌≡◌, length}
use Rattle.shard_lines.specs.{each_of, scalar_of, words_behind}
use Rattle.shard_lines.proofs.Growing.{all_on}
use Rattle.shard_lines.proofs.reading.read_scalars.Given as goal

abbrev pub invariant-loop-word : goal.invariant-loop-word
invariant-loop-word l = all_on l.values (each_of scalar_of (words_behind l.left)) ≡ each_of scalar_of (words_behind l.fn.rest)

abbrev pub decreases-loop-word : goal.decreases-loop-word
decreases-loop-word l = length l.left
