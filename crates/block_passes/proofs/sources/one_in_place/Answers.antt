use Rattle.block_passes.proofs.Serving.{lanes_one}
use Rattle.block_passes.proofs.sources.one_in_place.Goals as goal

pub returns : goal.returns
returns g c = λ p low hand. lanes_one c.args.at.now c.args.own.now c.args.lanes.now c.requires.can p low hand c.in_ok-x.x c.requires.one (λ h. c.in_ok-x.ensures.given p low h)
