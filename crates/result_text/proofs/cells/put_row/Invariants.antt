use Rattle.lemmas.proofs.{◌≡◌, ◌++◌, [], drop, get_or}
use Rattle.result_text.specs.{lines_on}
use Rattle.result_text.proofs.cells.put_row.Given as goal

abbrev pub invariant-loop-j : goal.invariant-loop-j
invariant-loop-j l =
    l.text ++ lines_on l.before l.y_edges l.j (drop l.j (get_or l.hist.cells l.fn.i [])) ≡ l.fn.text ++ lines_on l.before l.y_edges 0 (get_or l.hist.cells l.fn.i [])
