use Rattle.lemmas.proofs.{◌≡◌, ℕ, drop, fold}
use Rattle.std.specs.Int.{int_min}
use Rattle.rdf_model.specs.{extreme_element, gives_int}
use Rattle.expr_eval.proofs.elements.least.Given as goal

abbrev pub invariant-loop-x : goal.invariant-loop-x
invariant-loop-x l = extreme_element {M = ℕ} int_min l.xs ≡ gives_int (fold int_min l.best (drop l.x-index l.rest))
