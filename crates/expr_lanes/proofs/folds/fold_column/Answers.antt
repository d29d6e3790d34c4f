use Rattle.expr_lanes.proofs.folds.fold_column.Goals as goal

pub fold_list-requires-clause-can : goal.fold_list-requires-clause-can
fold_list-requires-clause-can g c = λ p h. c.in-Some.ensures p (c.requires.ready.selected.inside p h)
