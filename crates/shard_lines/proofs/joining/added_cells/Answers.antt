use Rattle.shard_lines.proofs.Ending.{cells_end}
use Rattle.shard_lines.proofs.joining.added_cells.Goals as goal

pub returns-then-i-more : goal.returns-then-i-more
returns-then-i-more c = cells_end c.args.cells.now c.args.more.now c.loop-i.all c.loop-i.i c.loop-i.invariant c.if-i-more.true
