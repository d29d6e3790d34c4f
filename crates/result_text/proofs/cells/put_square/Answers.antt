use Rattle.lemmas.proofs.{◌++◌, [], ap, ◌∙◌, arith, get_or, drop_all, slice_get-get_or}
use Rattle.result_text.specs.{planes_on}
use Rattle.result_text.proofs.PassLines.{one_left, planes_are, put_last, put_next}
use Rattle.result_text.proofs.cells.put_square.Goals as goal

pub loop-i-preserved : goal.loop-i-preserved
loop-i-preserved c =
    let rows = c.args.hist.now.cells in
    let row = one_left rows c.loop-i.i (get_or rows c.loop-i.i []) (slice_get-get_or rows c.loop-i.i [] (omega arith)) in
    put_next _ _ _ _ _ _ c.loop-i.invariant (ap (planes_on c.args.x_edges.now c.args.y_edges.now c.loop-i.i) row) c.in_ok-put_row.ensures

pub returns : goal.returns
returns c =
    put_last _ _ _ c.loop-i.invariant (ap (planes_on c.args.x_edges.now c.args.y_edges.now c.loop-i.i) (drop_all c.loop-i.i c.args.hist.now.cells (omega arith)))
    ∙ ap (λ l. c.args.text.now ++ l) (planes_are c.args.x_edges.now c.args.y_edges.now 0 c.args.hist.now.cells)
