use Rattle.lemmas.proofs.{◌≡◌, ◌++◌, take}
use Rattle.expr_lanes.specs.{numbers_at}
use Rattle.expr_lanes.proofs.arguments.numbers_of.Given as goal

abbrev pub invariant-loop-lane : goal.invariant-loop-lane
invariant-loop-lane l = l.numbers.items ≡ l.initial.numbers.items ++ numbers_at (take l.lane-index l.lanes) l.place
