use Rattle.lemmas.proofs.{arith}
use Rattle.std.proofs.lemmas.Option.{slice_get-get_or}
use Rattle.event_loop.proofs.Found.{next_counts}
use Rattle.event_loop.proofs.place.counts_of.Goals as goal

pub loop-pass-preserved : goal.loop-pass-preserved
loop-pass-preserved c =
    record {
      few_actions = omega (arith, c.accumulators-actions.ensures.few, c.loop-pass.invariant.few_actions);
      few_watched = grind (arith, c.from-watched.ensures, c.loop-pass.invariant.few_watched);
      each = next_counts c.args.graph.now c.args.passes.now c.loop-pass.pass-index _ c.loop-pass.actions c.loop-pass.watched _ _ _
          (slice_get-get_or c.args.passes.now c.loop-pass.pass-index _ c.loop-pass-test.true) c.loop-pass.invariant.each c.accumulators-actions.ensures.value c.from-watched.ensures c.is_watched.ensures;
    }
