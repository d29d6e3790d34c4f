use Rattle.lemmas.proofs.{◌≡◌, ◌+◌}
use Rattle.block_cache.specs.{outcome_over}
use Rattle.block_cache.proofs.LaneSteps.{AreTurnedTo}
use Rattle.block_cache.proofs.each_place.each_place.Given as goal

abbrev pub invariant-loop-i : goal.invariant-loop-i
invariant-loop-i g l =
    AreTurnedTo l.evaluation.expr.now.kind (outcome_over l.evaluation.view.block.now l.evaluation.view.lanes.now l.evaluation.expr.now.tree) l.places l.initial.values.numbers.items l.values.numbers.items l.initial.values.vectors l.values.vectors l.initial.stopped l.stopped l.initial.stops.items l.stops.items l.i × (l.steps ≡ l.initial.steps + l.i)
