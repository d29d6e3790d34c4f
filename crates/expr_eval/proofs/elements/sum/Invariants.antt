use Rattle.lemmas.proofs.{◌≡◌, drop, pos, ℕ}
use Rattle.rdf_model.specs.{sum_from}
use Rattle.expr_eval.proofs.elements.sum.Given as goal

abbrev pub invariant-loop-x : goal.invariant-loop-x
invariant-loop-x l = sum_from {M = ℕ} (pos 0) l.xs ≡ sum_from l.total (drop l.x-index l.xs)
