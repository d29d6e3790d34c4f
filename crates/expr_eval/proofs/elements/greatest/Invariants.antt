use Rattle.lemmas.proofs.{◌≡◌, ℕ, drop, fold}
use Rattle.std.specs.Int.{int_max}
use Rattle.rdf_model.specs.{extreme_element, gives_int}
use Rattle.expr_eval.proofs.elements.greatest.Given as goal

abbrev pub invariant-loop-x : goal.invariant-loop-x
invariant-loop-x l = extreme_element {M = ℕ} int_max l.xs ≡ gives_int (fold int_max l.best (drop l.x-index l.rest))
