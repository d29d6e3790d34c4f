use Rattle.lemmas.proofs.{◌≤◌}
use Rattle.loop_keys.specs.{job_of}
use Rattle.shard_loop.proofs.SpanRuns.{IsUpTo}
use Rattle.shard_loop.proofs.span_run.process_span.Given as goal

abbrev pub invariant-loop-cluster : goal.invariant-loop-cluster
invariant-loop-cluster g l = IsUpTo (job_of l.job) l.lo l.cluster l.state × (l.cluster ≤ l.hi)
