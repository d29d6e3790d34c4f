use Rattle.lemmas.proofs.{◌∙◌, ap, arith, length}
use Rattle.loop_keys.specs.{job_of}
use Rattle.event_loop.proofs.Found.{counted, fewer, read}
use Rattle.shard_loop.proofs.passes.pass_count.Goals as goal

pub overflow_cast-result : goal.overflow_cast-result
overflow_cast-result g c =
    let few = fewer (job_of c.args.job.now) c.requires.job c.args.job.now.graph.now c.requires.graph c.len-few.result (c.len-few.ensures.count ∙ ap length c.variations.ensures) c.len-few.ensures.few
    c.passes.result.now (read (job_of c.args.job.now) c.args.job.now.graph.now c.passes.result.now c.requires.graph c.passes.ensures) in
    omega (arith, few)

pub returns : goal.returns
returns g c = counted (job_of c.args.job.now) c.passes.result.now (read (job_of c.args.job.now) c.args.job.now.graph.now c.passes.result.now c.requires.graph c.passes.ensures)
