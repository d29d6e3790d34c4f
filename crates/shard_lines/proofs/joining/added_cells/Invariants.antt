use Rattle.lemmas.proofs.{◌≡◌, ◌++◌, drop}
use Rattle.shard_lines.specs.{added_cells}
use Rattle.shard_lines.proofs.joining.added_cells.Given as goal

abbrev pub invariant-loop-i : goal.invariant-loop-i
invariant-loop-i l = l.all ++ added_cells (drop l.i l.cells) (drop l.i l.more) ≡ added_cells l.cells l.more
