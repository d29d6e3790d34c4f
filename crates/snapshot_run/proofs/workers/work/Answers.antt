use Rattle.snapshot_entries.specs.{data_of, plan_of}
use Rattle.snapshot_run.specs.{facts_of, spans_of}
use Rattle.snapshot_run.proofs.Making.{done_more, made_more}
use Rattle.snapshot_run.proofs.workers.work.Goals as goal

pub loop-cluster-preserved : goal.loop-cluster-preserved
loop-cluster-preserved g c =
    let inv = c.loop-cluster.invariant in
    let facts = facts_of (plan_of c.args.job.now) (data_of c.args.job.now) (spans_of c.args.job.now.columns.now.cuts) in
    record {
      seat_of = c.in-Some.ensures.of.0;
      unkept = c.in-Some.ensures.some.2;
      unpassed = c.in-Some.ensures.some.3;
      unlowered = c.in-Some.ensures.of.2;
      skim = c.in-Ok-make_piece.ensures.of;
      made = made_more facts c.loop-cluster.pieces c.push.new.self c.in-Ok-make_piece.piece c.in-Some.cluster inv.made c.in-Ok-push.ensures.ok c.in-Ok-make_piece.ensures.made;
      done = done_more facts c.loop-cluster.pieces c.push.new.self c.in-Ok-make_piece.piece c.in-Some.cluster c.loop-cluster.seat.drawn c.claim.new.seat.drawn inv.done c.in-Ok-push.ensures.ok c.in-Ok-make_piece.ensures.made c.in-Some.ensures.some.1;
    }
