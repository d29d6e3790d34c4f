use Rattle.lemmas.proofs.{◌≡◌, ◌++◌, [], get_or, map, take}
use Rattle.shard_spans.specs.{cell_sum}
use Rattle.shard_loop.proofs.filled_lines.push_row.Given as goal

abbrev pub invariant-loop-j : goal.invariant-loop-j
invariant-loop-j l = l.cells ≡ l.fn.cells ++ map cell_sum (take l.j (get_or l.hist.cells l.fn.i []))
