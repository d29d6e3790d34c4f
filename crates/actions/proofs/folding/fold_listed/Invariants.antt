use Rattle.lemmas.proofs.{ℤ, ◌≤◌, ◌+◌, ◌*◌, ◌^◌, ◌++◌, List, get_or, map, pos, take}
use Rattle.actions.proofs.folding.fold_listed.Given as goal

abbrev pub invariant-loop-place : goal.invariant-loop-place
invariant-loop-place g l = record {
  folded : (start : g.row.F.Denot) (before : List ℤ) → g.F.Folds.folded start l.initial.folder before → g.F.Folds.folded start l.folder (before ++ map (λ p. get_or l.numbers p (pos 0)) (take l.place-index l.listed));
  bounded : g.F.Folds.size l.folder ≤ g.F.Folds.size l.initial.folder + l.place-index * 2 ^ 63;
}
