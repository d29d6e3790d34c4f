use Rattle.lemmas.proofs.{arith}
use Rattle.expr_lanes.proofs.Composed.{number_more}
use Rattle.expr_lanes.proofs.selection.number_places.Goals as goal

pub loop-i-preserved : goal.loop-i-preserved
loop-i-preserved c = number_more _ _ c.loop-i.invariant (omega arith)

pub returns : goal.returns
returns = grind arith
