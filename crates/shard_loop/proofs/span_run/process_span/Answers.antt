use Rattle.lemmas.proofs.{◌≡◌, ap, ◌∙◌, Ok, arith, refl, subst}
use Rattle.loop_keys.specs.{facts_in, job_of}
use Rattle.loop_pieces.specs.{StandsFor}
use Rattle.event_loop.specs.{job_facts}
use Rattle.shard_loop.proofs.SpanRuns.{IsUpTo, all_below, begun, ends, goes_on, many, stops}
use Rattle.shard_loop.proofs.span_run.process_span.Goals as goal

pub loop-cluster-init : goal.loop-cluster-init
loop-cluster-init g c = (begun (job_of c.args.job.now) c.args.lo _ c.in_ok-state.ensures, c.requires.span.0)

pub process-requires-clause-slot : goal.process-requires-clause-slot
process-requires-clause-slot g c = c.loop-cluster.invariant.0.slot

pub process-requires-clause-cluster : goal.process-requires-clause-cluster
process-requires-clause-cluster g c = let top = c.requires.span.1 in let lt = c.loop-cluster-test.true in omega (arith, many (job_of c.args.job.now))

pub process-requires-clause-above : goal.process-requires-clause-above
process-requires-clause-above g c = all_below (job_of c.args.job.now) c.args.lo c.loop-cluster.cluster c.loop-cluster.state c.loop-cluster.invariant.0

pub process-requires-clause-open : goal.process-requires-clause-open
process-requires-clause-open g c = λ e. let going = c.loop-cluster.invariant.0.going in absurd (cc)

pub loop-cluster-preserved : goal.loop-cluster-preserved
loop-cluster-preserved g c =
    let d = c.process.ensures.done (c.in-Ok-Done.is ∙ ap Ok c.in-Ok-Done.field-0-is) in
    let top = c.requires.span.1 in
    let lt = c.loop-cluster-test.true in
    (goes_on (job_of c.args.job.now) c.args.lo c.loop-cluster.cluster _ c.loop-cluster.state c.process.new.self refl (omega arith) c.loop-cluster.invariant.0 c.process.ensures.slot d.1 d.2 d.3, omega arith)

pub returns-in-Ok-Faulted : goal.returns-in-Ok-Faulted
returns-in-Ok-Faulted g c =
    let f = c.process.ensures.faulted c.in-Ok-Faulted.fault (c.in-Ok-Faulted.is ∙ ap Ok c.in-Ok-Faulted.field-0-is) in
    stops (job_of c.args.job.now) c.requires.job.job c.args.lo c.loop-cluster.cluster c.args.hi c.loop-cluster.state c.in-Ok-Faulted.fault c.loop-cluster-test.true c.requires.span.1 c.loop-cluster.invariant.0 f.1

pub into_piece-requires : goal.into_piece-requires
into_piece-requires g c = c.loop-cluster.invariant.0.going

pub returns : goal.returns
returns g c =
    let j = job_of c.args.job.now in
    let past = c.loop-cluster-test.false in
    let within = c.loop-cluster.invariant.1 in
    let last : c.loop-cluster.cluster ≡ c.args.hi = omega arith in
    let up = subst (λ n. IsUpTo j c.args.lo n c.loop-cluster.state) last c.loop-cluster.invariant.0 in
    record {
      sound = ends j c.requires.job.job c.args.lo c.args.hi c.loop-cluster.state c.requires.span.1 up;
      stands = subst (λ set. StandsFor (facts_in j) set c.into_piece.result) up.done (c.into_piece.ensures.stands (job_facts j) up.slot);
    }
