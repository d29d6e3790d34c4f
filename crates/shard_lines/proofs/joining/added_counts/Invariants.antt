use Rattle.lemmas.proofs.{◌≡◌, ◌++◌, drop}
use Rattle.shard_lines.specs.{added_counts}
use Rattle.shard_lines.proofs.joining.added_counts.Given as goal

abbrev pub invariant-loop-i : goal.invariant-loop-i
invariant-loop-i l = l.all ++ added_counts (drop l.i l.counts) (drop l.i l.more) ≡ added_counts l.counts l.more
