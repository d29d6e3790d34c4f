use Rattle.lemmas.proofs.{refl}
use Rattle.block_passes.proofs.Selecting.{made_again}
use Rattle.block_passes.proofs.select.select_again.Goals as goal

pub returns-then-is_made-clause-selected : goal.returns-then-is_made-clause-selected
returns-then-is_made-clause-selected g c = λ p.
    let was = c.if-is_made.ensures refl in
    made_again c.args.at.now p c.args.work.now c.args.kept.now c.args.step c.requires.step (c.requires.ready p) c.index-kept-step.result was.0 was.1 was.2
