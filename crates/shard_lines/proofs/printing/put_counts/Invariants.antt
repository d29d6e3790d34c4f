use Rattle.lemmas.proofs.{◌≡◌, ◌++◌, take, flat_map}
use Rattle.shard_lines.specs.{count_words, spaced}
use Rattle.shard_lines.proofs.printing.put_counts.Given as goal

abbrev pub invariant-loop-count : goal.invariant-loop-count
invariant-loop-count l = l.text ≡ l.fn.text ++ spaced (flat_map count_words (take l.count-index l.counts))
