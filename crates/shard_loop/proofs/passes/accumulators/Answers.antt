use Rattle.loop_keys.specs.{job_of}
use Rattle.event_loop.proofs.Found.{result_within}
use Rattle.shard_loop.proofs.JobPasses.{no_accumulator, one_accumulator}
use Rattle.shard_loop.proofs.passes.accumulators.Goals as goal

pub kind-requires : goal.kind-requires
kind-requires g c = result_within (job_of c.args.job.now) c.args.number _ c.pass_at-pass.ensures c.args.job.now.graph.now c.requires.job.graph

pub returns-in-Action-clause-count : goal.returns-in-Action-clause-count
returns-in-Action-clause-count g c = one_accumulator (job_of c.args.job.now) c.args.number _ c.pass_at-pass.ensures c.kind.result.now c.args.job.now.graph.now c.requires.job.graph c.kind.ensures c.in-Action.field-0 c.in-Action.is

pub returns-in-Report-clause-count : goal.returns-in-Report-clause-count
returns-in-Report-clause-count g c = no_accumulator (job_of c.args.job.now) c.args.number _ c.pass_at-pass.ensures c.kind.result.now c.args.job.now.graph.now c.requires.job.graph c.kind.ensures c.in-Report.is
