use Rattle.lemmas.proofs.{ℤ, ◌≤◌, ◌+◌, ◌*◌, ◌^◌, ◌++◌, List, length, take}
use Rattle.actions.specs.{numbers_in, places_of}
use Rattle.actions.proofs.folding.fold_lane.Given as goal

abbrev pub invariant-loop-i : goal.invariant-loop-i
invariant-loop-i g l = record {
  folded : (start : g.row.F.Denot) (before : List ℤ) → g.F.Folds.folded start l.initial.folder before → g.F.Folds.folded start l.folder (before ++ numbers_in l.lane (take l.i (places_of l.places)));
  bounded : g.F.Folds.size l.folder ≤ g.F.Folds.size l.initial.folder + length (numbers_in l.lane (take l.i (places_of l.places))) * 2 ^ 63;
}
