use Rattle.lemmas.proofs.{◌≡◌, [], take, drop}
use Rattle.snapshot_plan.specs.{first_bad, scope_in}
use Rattle.snapshot_plan.proofs.columns.first_bad.Given as goal

abbrev pub invariant-loop-i : goal.invariant-loop-i
invariant-loop-i l = first_bad (scope_in l.graph l.node) l.i (take l.i l.columns) (drop l.i l.columns) ≡ first_bad (scope_in l.graph l.node) 0 [] l.columns
