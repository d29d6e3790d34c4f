use Rattle.shard_loop.proofs.Taking.{copied_next}
use Rattle.shard_loop.proofs.filled_lines.taken_values.Goals as goal

pub loop-i-preserved : goal.loop-i-preserved
loop-i-preserved c = copied_next c.args.taken.now c.loop-i.i c.at.result c.loop-i.values c.push.new.self c.loop-i.invariant c.at.ensures c.in_ok-push.ensures.ok
