use Rattle.lemmas.proofs.{◌≡◌, length}
use Rattle.shard_lines.specs.{counts_of_words, pairs_of, words_behind}
use Rattle.shard_lines.proofs.Growing.{all_on}
use Rattle.shard_lines.proofs.reading.read_filters.Given as goal

abbrev pub invariant-loop-all : goal.invariant-loop-all
invariant-loop-all l = all_on l.filters (pairs_of (counts_of_words l.limits) (words_behind l.left)) ≡ pairs_of (counts_of_words l.limits) (words_behind l.fn.rest)

abbrev pub decreases-loop-all : goal.decreases-loop-all
decreases-loop-all l = length l.left
