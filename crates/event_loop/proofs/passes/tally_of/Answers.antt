use Rattle.lemmas.proofs.{◌∙◌, ap, arith, replicate}
use Rattle.loop_pieces.specs.{nothing}
use Rattle.loop_keys.specs.{job_of}
use Rattle.event_loop.proofs.Found.{counted, filters_same, of_all, read}
use Rattle.event_loop.proofs.passes.tally_of.Goals as goal

pub loop-pass-init : goal.loop-pass-init
loop-pass-init g c = (
  c.in_ok-tally.ensures.fresh,
  c.in_ok-tally.ensures.flow ∙ ap (λ n. replicate n nothing) (c.filters.ensures ∙ filters_same (job_of c.args.job.now) c.args.job.now.graph.now c.requires.graph),
)

pub returns-clause-fresh : goal.returns-clause-fresh
returns-clause-fresh g c =
    let j = job_of c.args.job.now in
    let many = counted j c.passes-pass-items.result.now (read j c.args.job.now.graph.now _ c.requires.graph c.passes-pass-items.ensures) in
    of_all j c.loop-pass.pass-index c.loop-pass.tally (omega (arith, many, c.loop-pass-test.false)) c.loop-pass.invariant.0
