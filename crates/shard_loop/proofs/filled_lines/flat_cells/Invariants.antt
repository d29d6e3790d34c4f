use Rattle.lemmas.proofs.{◌≡◌, map, take}
use Rattle.shard_spans.specs.{cell_sum}
use Rattle.shard_loop.proofs.filled_lines.flat_cells.Given as goal

abbrev pub invariant-loop-i : goal.invariant-loop-i
invariant-loop-i l = l.cells ≡ map cell_sum (take l.i l.hist.cells)
