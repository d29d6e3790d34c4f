use Rattle.std.proofs.lemmas.Option.{slice_get-get_or}
use Rattle.shard_loop.proofs.Taking.{counted_next}
use Rattle.shard_loop.proofs.filled_lines.counts_at.Goals as goal

pub loop-f-preserved : goal.loop-f-preserved
loop-f-preserved c =
    counted_next c.args.covered.now c.args.flow.now c.loop-f.f-index _ c.loop-f.counts c.push.new.self c.counts.result c.loop-f.invariant (slice_get-get_or c.args.covered.now c.loop-f.f-index 0 c.loop-f-test.true) c.counts.ensures c.in_ok-push.ensures.ok
