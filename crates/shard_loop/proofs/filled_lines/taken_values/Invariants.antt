use Rattle.lemmas.proofs.{◌≡◌, take}
use Rattle.shard_loop.proofs.filled_lines.taken_values.Given as goal

abbrev pub invariant-loop-i : goal.invariant-loop-i
invariant-loop-i l = l.values ≡ take l.i l.taken
