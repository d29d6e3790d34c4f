use Rattle.lemmas.proofs.{◌≡◌, map, take}
use Rattle.snapshot_plan.specs.{column_at, scope_in}
use Rattle.snapshot_plan.proofs.planning.SnapPlan.header.Given as goal

abbrev pub invariant-loop-column : goal.invariant-loop-column
invariant-loop-column l = l.header ≡ map (column_at (scope_in l.self.graph l.self.node)) (take l.column-index l.self.columns)
