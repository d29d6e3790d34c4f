use Rattle.lemmas.proofs.{Some, sym, ap, ◌∙◌, arith, common_steps, on_ok, to_z-of_z}
use Rattle.result_text.specs.{behind}
use Rattle.result_text.proofs.PassLines.{bin_at, last_name}
use Rattle.result_text.proofs.cells.put_cell_name.Goals as goal

pub returns-then-i-edges : goal.returns-then-i-edges
returns-then-i-edges c =
    on_ok c.extend-then-i-edges.result _ _ (λ e. ap Some e ∙ sym (ap (behind c.args.text.now) (last_name c.args.edges.now c.args.i c.if-i-edges.true (omega arith)))) c.extend-then-i-edges.ensures.ok

pub returns : goal.returns
returns = grind (arith, common_steps, bin_at, to_z-of_z)
