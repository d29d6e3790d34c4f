use Rattle.loop_keys.specs.{job_of}
use Rattle.shard_loop.proofs.Looping.{faulted_loop, is_piece, whole_loop}
use Rattle.shard_loop.proofs.loops.run_loop.Goals as goal

pub span_lines-requires-clause-piece : goal.span_lines-requires-clause-piece
span_lines-requires-clause-piece g c = (c.args.clusters.lo, c.args.clusters.hi, is_piece (job_of c.args.job.now) c.args.clusters.lo c.args.clusters.hi _ c.in-Whole.piece c.in-Whole.is c.in_ok-piece.ensures)

pub returns-in_ok-span_lines-in-Whole : goal.returns-in_ok-span_lines-in-Whole
returns-in_ok-span_lines-in-Whole g c =
    let j = job_of c.args.job.now in
    let piece = is_piece j c.args.clusters.lo c.args.clusters.hi _ c.in-Whole.piece c.in-Whole.is c.in_ok-piece.ensures in
    whole_loop j c.args.clusters.lo c.args.clusters.hi c.in-Whole.piece _ piece (c.in_ok-span_lines-in-Whole.ensures c.args.clusters.lo c.args.clusters.hi piece)

pub returns-in-Faulted : goal.returns-in-Faulted
returns-in-Faulted g c = faulted_loop (job_of c.args.job.now) c.args.clusters.lo c.args.clusters.hi _ c.in-Faulted.fault c.in-Faulted.is c.in_ok-piece.ensures
