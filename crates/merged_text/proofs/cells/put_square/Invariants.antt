use Rattle.lemmas.proofs.{◌≡◌, ◌++◌, ◌-◌, length, map, suc}
use Rattle.histograms.specs.{cell_seen}
use Rattle.result_text.specs.{planes_on}
use Rattle.merged_text.specs.{rows_of}
use Rattle.merged_text.proofs.cells.put_square.Given as goal

abbrev pub invariant-loop-i : goal.invariant-loop-i
invariant-loop-i l =
    l.text ++ planes_on l.x_edges l.y_edges l.i (rows_of (suc (length l.y_edges)) (suc (length l.x_edges) - l.i) (map cell_seen l.left))
    ≡ l.fn.text ++ planes_on l.x_edges l.y_edges 0 (rows_of (suc (length l.y_edges)) (suc (length l.x_edges)) (map cell_seen l.cells))
