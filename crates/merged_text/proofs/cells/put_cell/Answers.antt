use Rattle.lemmas.proofs.{◌++◌, sym, ap, ◌∙◌, append-nil, rules, FitsSigned, on_ok, to_z-of_z, w128}
use Rattle.histograms.specs.{cell_seen}
use Rattle.result_text.proofs.PassLines.{cell_put, no_line}
use Rattle.merged_text.proofs.cells.put_cell.Goals as goal

pub returns-then-i-edges : goal.returns-then-i-edges
returns-then-i-edges c =
    sym (ap (λ l. c.args.text.now ++ l) (no_line c.args.before.now c.args.edges.now c.args.i (cell_seen c.args.cell) c.if-i-edges.true) ∙ append-nil c.args.text.now)

pub returns : goal.returns
returns c =
    let sum_fits : FitsSigned w128 c.args.cell.sum = search rules in
    let squares_fit : FitsSigned w128 c.args.cell.squares = search rules in
    on_ok c.push-3.result _ _
    (λ e. cell_put c.args.text.now c.args.before.now c.args.edges.now c.args.i (cell_seen c.args.cell)
    c.extend.new.self c.extend-2.new.self c.put_cell_name.new.text c.push.new.self c.put_sum.new.text c.push-2.new.self c.put_sum-2.new.text c.push-3.new.self
    c.in_ok-extend.ensures.ok c.in_ok-extend-2.ensures.ok c.in_ok-put_cell_name.ensures c.in_ok-push.ensures.ok (rw (to_z-of_z w128 c.args.cell.sum sum_fits) at c.in_ok-put_sum.ensures) c.in_ok-push-2.ensures.ok (rw (to_z-of_z w128 c.args.cell.squares squares_fit) at c.in_ok-put_sum-2.ensures) e)
    c.push-3.ensures.ok
