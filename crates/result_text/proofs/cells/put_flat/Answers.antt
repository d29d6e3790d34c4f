use Rattle.lemmas.proofs.{◌++◌, [], ap, ◌∙◌, arith}
use Rattle.histograms.specs.{cell_seen}
use Rattle.result_text.proofs.PassLines.{flat_lines, line_last, line_next}
use Rattle.result_text.proofs.cells.put_flat.Goals as goal

pub loop-i-preserved : goal.loop-i-preserved
loop-i-preserved c =
    line_next [] c.loop-i.text c.put_cell.new.text _ c.args.edges.now c.loop-i.i c.args.hist.now.cells (cell_seen c.cell.result) c.loop-i.invariant c.cell.ensures c.in_ok-put_cell.ensures

pub returns : goal.returns
returns c =
    line_last [] c.loop-i.text _ c.args.edges.now c.loop-i.i c.args.hist.now.cells c.loop-i.invariant (omega arith)
    ∙ ap (λ l. c.args.text.now ++ l) (flat_lines c.args.edges.now c.args.hist.now.cells)
