use Rattle.lemmas.proofs.{◌++◌, [], get_or, sym, ap, ◌∙◌, append-nil, arith}
use Rattle.histograms.specs.{cell_seen}
use Rattle.result_text.proofs.PassLines.{line_last, line_next, no_plane, plane_put}
use Rattle.result_text.proofs.cells.put_row.Goals as goal

pub returns-then-i-x_edges : goal.returns-then-i-x_edges
returns-then-i-x_edges c =
    sym (ap (λ l. c.args.text.now ++ l) (no_plane c.args.x_edges.now c.args.y_edges.now c.args.i (get_or c.args.hist.now.cells c.args.i []) c.if-i-x_edges.true) ∙ append-nil c.args.text.now)

pub loop-j-preserved : goal.loop-j-preserved
loop-j-preserved c =
    line_next c.as_bytes-before.result.now c.loop-j.text c.put_cell.new.text _ c.args.y_edges.now c.loop-j.j (get_or c.args.hist.now.cells c.args.i []) (cell_seen c.cell.result) c.loop-j.invariant c.cell.ensures c.in_ok-put_cell.ensures

pub returns : goal.returns
returns c =
    let row = get_or c.args.hist.now.cells c.args.i [] in
    let whole = c.cells-columns.ensures.columns c.args.i (omega arith) in
    let all = line_last c.as_bytes-before.result.now c.loop-j.text _ c.args.y_edges.now c.loop-j.j row c.loop-j.invariant (omega arith) in
    plane_put c.args.x_edges.now c.args.y_edges.now c.args.i row c.args.text.now _ _ _ _ _ c.new-name.ensures c.in_ok-put_cell_name.ensures c.in_ok-push.ensures.ok c.as_bytes-before.ensures all
