use Rattle.lemmas.proofs.{◌≡◌, ◌++◌, [], drop}
use Rattle.result_text.specs.{lines_on}
use Rattle.result_text.proofs.cells.put_flat.Given as goal

abbrev pub invariant-loop-i : goal.invariant-loop-i
invariant-loop-i l = l.text ++ lines_on [] l.edges l.i (drop l.i l.hist.cells) ≡ l.fn.text ++ lines_on [] l.edges 0 l.hist.cells
