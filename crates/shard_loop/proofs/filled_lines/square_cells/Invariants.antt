use Rattle.lemmas.proofs.{◌≡◌, map, take, flat_map}
use Rattle.shard_spans.specs.{cell_sum}
use Rattle.shard_loop.proofs.filled_lines.square_cells.Given as goal

abbrev pub invariant-loop-i : goal.invariant-loop-i
invariant-loop-i l = l.cells ≡ flat_map (λ row. map cell_sum row) (take l.i l.hist.cells)
