use Rattle.lemmas.proofs.{arith}
use Rattle.loop_keys.specs.{job_of}
use Rattle.event_loop.proofs.Found.{counted, numbered_at, read}
use Rattle.shard_loop.proofs.passes.pass_at.Goals as goal

pub bounds-passes-number : goal.bounds-passes-number
bounds-passes-number g c =
    let few = counted (job_of c.args.job.now) c.passes.result.now (read (job_of c.args.job.now) c.args.job.now.graph.now c.passes.result.now c.requires.job.graph c.passes.ensures) in
    omega (arith, c.requires.number, few)

pub returns : goal.returns
returns g c = numbered_at (job_of c.args.job.now) c.args.job.now.graph.now c.passes.result.now c.requires.job.graph c.passes.ensures c.args.number c.requires.number _
