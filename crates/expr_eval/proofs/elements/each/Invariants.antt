use Rattle.lemmas.proofs.{◌≡◌, drop}
use Rattle.rdf_model.specs.{for_all}
use Rattle.expr_eval.specs.{following}
use Rattle.expr_eval.proofs.elements.each.Given as goal

abbrev pub invariant-loop-x : goal.invariant-loop-x
invariant-loop-x g l =
    for_all (g.E.Elementwise.outcome l.operation) l.xs ≡ following l.results.items (for_all (g.E.Elementwise.outcome l.operation) (drop l.x-index l.xs))
