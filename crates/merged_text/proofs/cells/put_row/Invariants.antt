use Rattle.lemmas.proofs.{◌≡◌, ◌++◌, drop, map}
use Rattle.histograms.specs.{cell_seen}
use Rattle.result_text.specs.{lines_on}
use Rattle.merged_text.proofs.cells.put_row.Given as goal

abbrev pub invariant-loop-i : goal.invariant-loop-i
invariant-loop-i l = l.text ++ lines_on l.before l.edges l.i (drop l.i (map cell_seen l.cells)) ≡ l.fn.text ++ lines_on l.before l.edges 0 (map cell_seen l.cells)
