use Rattle.lemmas.proofs.{ap, ◌∙◌, map, option_map}
use Rattle.std.proofs.lemmas.Option.{slice_get-get_or, slice_get-map}
use Rattle.histograms.specs.{cell_seen}
use Rattle.result_text.proofs.PassLines.{line_next}
use Rattle.merged_text.proofs.cells.put_row.Goals as goal

pub loop-i-preserved : goal.loop-i-preserved
loop-i-preserved c =
    line_next c.args.before.now c.loop-i.text c.put_cell.new.text _ c.args.edges.now c.loop-i.i (map cell_seen c.args.cells.now) _ c.loop-i.invariant
    (slice_get-map cell_seen c.args.cells.now c.loop-i.i ∙ ap (option_map cell_seen) (slice_get-get_or c.args.cells.now c.loop-i.i _ c.loop-i-test.true)) c.in_ok-put_cell.ensures
