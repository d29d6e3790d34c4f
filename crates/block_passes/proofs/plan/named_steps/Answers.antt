use Rattle.lemmas.proofs.{◌++◌}
use Rattle.block_passes.proofs.PlanSteps.{filter_led}
use Rattle.block_passes.proofs.plan.named_steps.Goals as goal

pub returns : goal.returns
returns g c = λ chains are.
    let led = c.in_ok-above.ensures chains are in
    filter_led _ c.requires.job.job c.args.filter c.requires.covered c.filter_path.result.now c.in-Some.up.now c.in-Some.site.now c.in-Some.ensures.cases.0 c.args.job.now.graph.now c.requires.job.graph c.filter_path.ensures
    chains c.path_steps.new.steps c.next_step.new.steps c.in_ok-above.above c.in_ok-own.own led (c.in_ok-own.ensures (chains ++ led.more) led.right.chain led.are led.right.its led.right.alike)
