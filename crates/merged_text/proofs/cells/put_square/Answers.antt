use Rattle.lemmas.proofs.{◌≡◌, ◌++◌, ◌+◌, suc, ap, ◌∙◌, arith, drop, length, map, take}
use Rattle.histograms.specs.{cell_seen}
use Rattle.result_text.proofs.PassLines.{planes_are}
use Rattle.merged_text.specs.{rows_of}
use Rattle.merged_text.proofs.Rows.{row_next, rows_begin, rows_end}
use Rattle.merged_text.proofs.cells.put_square.Goals as goal

pub loop-i-init : goal.loop-i-init
loop-i-init c = rows_begin c.args.text.now c.args.x_edges.now c.args.y_edges.now (suc (length c.args.y_edges.now)) (suc (length c.args.x_edges.now)) (map cell_seen c.args.cells.now)

pub loop-i-preserved : goal.loop-i-preserved
loop-i-preserved c =
    let lt = c.loop-i-test.true in
    let wide : length c.args.y_edges.now + 1 ≡ suc (length c.args.y_edges.now) = omega arith in
    row_next c.loop-i.text c.put_named_row.new.text _ c.args.x_edges.now c.args.y_edges.now (suc (length c.args.y_edges.now)) (suc (length c.args.x_edges.now)) c.loop-i.i c.loop-i.left.now c.parted.result.0.now c.parted.result.1.now (omega arith)
    c.loop-i.invariant (c.parted.ensures.first ∙ ap (λ k. take k c.loop-i.left.now) wide) (c.parted.ensures.rest ∙ ap (λ k. drop k c.loop-i.left.now) wide) c.in_ok-put_named_row.ensures

pub returns : goal.returns
returns c =
    let past = c.loop-i-test.false in
    rows_end c.loop-i.text _ c.args.x_edges.now c.args.y_edges.now (suc (length c.args.y_edges.now)) (suc (length c.args.x_edges.now)) c.loop-i.i (map cell_seen c.loop-i.left.now) (omega arith) c.loop-i.invariant
    ∙ ap (λ l. c.args.text.now ++ l) (planes_are c.args.x_edges.now c.args.y_edges.now 0 (rows_of (suc (length c.args.y_edges.now)) (suc (length c.args.x_edges.now)) (map cell_seen c.args.cells.now)))
