use Rattle.lemmas.proofs.{arith, inl, inr}
use Rattle.std.proofs.lemmas.Result.{err_from_is_err_and}
use Rattle.table_csv.proofs.RecordSteps.{pushing_end, pushing_stop}
use Rattle.table_csv.proofs.cells.push_cells.Goals as goal

pub returns-in_err-push_cell : goal.returns-in_err-push_cell
returns-in_err-push_cell c =
    let p = err_from_is_err_and c.from_residual.result c.from_residual.ensures.1 in
    rw (p.1, p.2) (elim c.in_err-push_cell.ensures [
      | inl memory ↦ inl memory
      | inr bad ↦ inr (
        bad.0,
        bad.1,
        pushing_stop _ _ _ _ _ _ _ c.index-cells-i.result bad.0 c.loop-i.invariant c.requires.kept (omega arith) (omega arith) c.index-cells-i.is (rw (← c.field.ensures) (rw (← c.index-cells-i.is) at bad.2)),
      )
    ])

pub returns : goal.returns
returns c = pushing_end _ _ _ _ _ _ _ c.loop-i.invariant (omega arith)
