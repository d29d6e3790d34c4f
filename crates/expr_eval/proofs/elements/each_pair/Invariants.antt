use Rattle.lemmas.proofs.{◌≡◌, drop}
use Rattle.rdf_model.specs.{for_all, number_operation, pairs}
use Rattle.expr_eval.specs.{following}
use Rattle.expr_eval.proofs.elements.each_pair.Given as goal

abbrev pub invariant-loop-i : goal.invariant-loop-i
invariant-loop-i l =
    for_all (λ p. number_operation l.op p.0 p.1) (pairs l.xs l.ys)
    ≡ following l.results.items (for_all (λ p. number_operation l.op p.0 p.1) (pairs (drop l.i l.xs) (drop l.i l.ys)))
