use Rattle.lemmas.proofs.{[], get_or, refl}
use Rattle.histograms.specs.{cell_seen}
use Rattle.shard_spans.specs.{cell_sum}
use Rattle.shard_loop.proofs.Taking.{made_next}
use Rattle.shard_loop.proofs.filled_lines.push_row.Goals as goal

pub loop-j-preserved : goal.loop-j-preserved
loop-j-preserved c =
    made_next cell_sum (get_or c.args.hist.now.cells c.args.i []) c.loop-j.j (cell_seen c.cell.result) c.args.cells.now c.loop-j.cells c.push.new.self c.cell.result c.loop-j.invariant c.cell.ensures c.in_ok-push.ensures.ok refl
