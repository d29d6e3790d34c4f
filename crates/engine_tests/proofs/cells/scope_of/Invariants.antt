use Rattle.engine_tests.specs.{AreBefore}
use Rattle.engine_tests.proofs.cells.scope_of.Given as goal

abbrev pub invariant-loop-place : goal.invariant-loop-place
invariant-loop-place l = AreBefore l.cells l.place l.scope
