use Rattle.lemmas.proofs.{map, on_ok}
use Rattle.histograms.specs.{cell_seen}
use Rattle.result_text.proofs.PassLines.{plane_put}
use Rattle.merged_text.proofs.cells.put_named_row.Goals as goal

pub returns : goal.returns
returns c = on_ok c.put_row.result _ _
    (λ e. plane_put c.args.x_edges.now c.args.y_edges.now c.args.i (map cell_seen c.args.cells.now) c.args.text.now _ _ _ _ _ c.new-before.ensures c.in_ok-put_cell_name.ensures c.in_ok-push.ensures.ok c.as_bytes.ensures e)
    c.put_row.ensures
