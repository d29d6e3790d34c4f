use Rattle.lemmas.proofs.{[], refl}
use Rattle.histograms.specs.{cell_seen}
use Rattle.shard_spans.specs.{cell_sum}
use Rattle.shard_loop.proofs.Taking.{made_next}
use Rattle.shard_loop.proofs.filled_lines.flat_cells.Goals as goal

pub loop-i-preserved : goal.loop-i-preserved
loop-i-preserved c = made_next cell_sum c.args.hist.now.cells c.loop-i.i (cell_seen c.cell.result) [] c.loop-i.cells c.push.new.self c.cell.result c.loop-i.invariant c.cell.ensures c.in_ok-push.ensures.ok refl
