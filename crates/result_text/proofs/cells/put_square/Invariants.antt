use Rattle.lemmas.proofs.{◌≡◌, ◌++◌, drop}
use Rattle.result_text.specs.{planes_on}
use Rattle.result_text.proofs.cells.put_square.Given as goal

abbrev pub invariant-loop-i : goal.invariant-loop-i
invariant-loop-i l = l.text ++ planes_on l.x_edges l.y_edges l.i (drop l.i l.hist.cells) ≡ l.fn.text ++ planes_on l.x_edges l.y_edges 0 l.hist.cells
