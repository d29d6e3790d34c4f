use Rattle.lemmas.proofs.{◌∙◌, ◌++◌, ap}
use Rattle.columns.proofs.InPieces.{keep_next}
use Rattle.columns.proofs.kept.keep_all.Goals as goal

pub keep-requires-clause-size : goal.keep-requires-clause-size
keep-requires-clause-size c = keep_next c.args.cuts.now.entries c.loop-column.yielded c.in-Some.column _ c.args.pieces.items c.requires.keep (c.loop-column.invariant.2 ∙ ap (λ l. c.loop-column.yielded ++ l) c.in-Some.ensures.steps.0)
