use Rattle.lemmas.proofs.{◌≡◌, drop, ◌++◌}
use Rattle.rdf_model.specs.{marked}
use Rattle.expr_eval.proofs.elements.marked.Given as goal

abbrev pub invariant-loop-i : goal.invariant-loop-i
invariant-loop-i l = marked l.xs l.marks ≡ l.results.items ++ marked (drop l.i l.xs) (drop l.i l.marks)
