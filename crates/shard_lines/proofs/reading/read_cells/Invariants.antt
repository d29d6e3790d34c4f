use Rattle.lemmas.proofs.{◌≡◌, length}
use Rattle.shard_lines.specs.{cell_of, pairs_of, words_behind}
use Rattle.shard_lines.proofs.Growing.{all_on}
use Rattle.shard_lines.proofs.reading.read_cells.Given as goal

abbrev pub invariant-loop-sum : goal.invariant-loop-sum
invariant-loop-sum l = all_on l.cells (pairs_of (cell_of l.limits) (words_behind l.left)) ≡ pairs_of (cell_of l.limits) (words_behind l.fn.rest)

abbrev pub decreases-loop-sum : goal.decreases-loop-sum
decreases-loop-sum l = length l.left
