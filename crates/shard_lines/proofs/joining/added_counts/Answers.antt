use Rattle.shard_lines.proofs.Ending.{counts_end}
use Rattle.shard_lines.proofs.joining.added_counts.Goals as goal

pub returns-then-i-more : goal.returns-then-i-more
returns-then-i-more c = counts_end c.args.counts.now c.args.more.now c.loop-i.all c.loop-i.i c.loop-i.invariant c.if-i-more.true
