use Rattle.std.proofs.lemmas.List.Filters.{FiltersInPlace}
use Rattle.expr_lanes.proofs.narrowing.keep_places.Given as goal

abbrev pub invariant-loop-i : goal.invariant-loop-i
invariant-loop-i g l = FiltersInPlace (g.T.PlaceTest.passes l.test) l.initial.places l.places l.kept l.i
