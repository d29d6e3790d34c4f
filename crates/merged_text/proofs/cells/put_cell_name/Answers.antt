use Rattle.lemmas.proofs.{◌-◌, Some, pos, get_or, sym, ap, ◌∙◌, arith, rules, w64, FitsSigned, on_ok, to_z-of_z}
use Rattle.result_text.specs.{behind}
use Rattle.result_text.proofs.PassLines.{bin_at, last_name}
use Rattle.merged_text.proofs.cells.put_cell_name.Goals as goal

pub returns-then-i-edges : goal.returns-then-i-edges
returns-then-i-edges c =
    on_ok c.extend-then-i-edges.result _ _ (λ e. ap Some e ∙ sym (ap (behind c.args.text.now) (last_name c.args.edges.now c.args.i c.if-i-edges.true (omega arith)))) c.extend-then-i-edges.ensures.ok

pub returns : goal.returns
returns c =
    let edges = c.args.edges.now in
    let lo : FitsSigned w64 (get_or edges (c.args.i - 1) (pos 0)) = search rules in
    let hi : FitsSigned w64 (get_or edges c.args.i (pos 0)) = search rules in
    on_ok c.put_bin.result _ _ (λ e. ap Some e ∙ sym (ap (behind c.args.text.now) (bin_at edges (c.args.i - 1) c.args.i (omega arith) (omega arith))))
    (rw (to_z-of_z w64 (get_or edges (c.args.i - 1) (pos 0)) lo, to_z-of_z w64 (get_or edges c.args.i (pos 0)) hi) at c.put_bin.ensures)
