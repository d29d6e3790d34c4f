use Rattle.loop_keys.proofs.KeyLaws.{more_rows}
use Rattle.loop_keys.proofs.rows.rows_of.Goals as goal

pub loop-v-preserved : goal.loop-v-preserved
loop-v-preserved c =
    more_rows c.args.graph.now c.loop-v.v c.loop-v.rows c.loop-v.invariant c.in_ok-row.row c.in_ok-row.ensures.0 c.push-in-loop-v.new.self c.in_ok-push-2.ensures.ok
