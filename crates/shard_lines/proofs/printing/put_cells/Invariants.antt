use Rattle.lemmas.proofs.{◌≡◌, ◌++◌, take, flat_map}
use Rattle.shard_lines.specs.{cell_words, spaced}
use Rattle.shard_lines.proofs.printing.put_cells.Given as goal

abbrev pub invariant-loop-cell : goal.invariant-loop-cell
invariant-loop-cell l = l.text ≡ l.fn.text ++ spaced (flat_map cell_words (take l.cell-index l.cells))
