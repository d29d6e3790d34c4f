use Rattle.lemmas.proofs.{OnOk, subst, sym}
use Rattle.chain_program.specs.{AreTurned, IsOtherRead, others_in}
use Rattle.chain_program.proofs.command.answer_command.Goals as goal

pub returns-in-Run-clause-turns : goal.returns-in-Run-clause-turns
returns-in-Run-clause-turns g c =
    let told = g.S.Shelf.files c.args.shelf.now in
    subst (λ k. OnOk c.run_tables.result (AreTurned (IsOtherRead told k) (others_in k) (g.S.Shelf.turns c.args.shelf.now) (g.S.Shelf.turns c.run_tables.new.shelf))) (sym c.in-Run.is) c.run_tables.ensures.turns

pub returns-in-Join-clause-turns : goal.returns-in-Join-clause-turns
returns-in-Join-clause-turns g c =
    let told = g.S.Shelf.files c.args.shelf.now in
    subst (λ k. OnOk c.join_files.result (AreTurned (IsOtherRead told k) (others_in k) (g.S.Shelf.turns c.args.shelf.now) (g.S.Shelf.turns c.join_files.new.shelf))) (sym c.in-Join.is) c.join_files.ensures.turns
