use Rattle.block_passes.specs.{turn_job}
use Rattle.block_passes.proofs.PlanSteps.{result_in}
use Rattle.block_passes.proofs.turn.Turn.action_read.Goals as goal

pub kind-requires : goal.kind-requires
kind-requires g c = result_in (turn_job c.args.self.now) c.args.self.now.job.now.graph.now c.requires.job.graph c.args.self.now.pass c.args.own c.requires.own

pub inputs-requires : goal.inputs-requires
inputs-requires g c = result_in (turn_job c.args.self.now) c.args.self.now.job.now.graph.now c.requires.job.graph c.args.self.now.pass c.args.own c.requires.own
