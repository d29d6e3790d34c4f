use Rattle.lemmas.proofs.{◌∙◌, length}
use Rattle.block_passes.specs.{turn_job}
use Rattle.block_passes.proofs.ClusterBlocks.{searched_clear, spent_few}
use Rattle.block_passes.proofs.Selecting.{first_searched}
use Rattle.block_passes.proofs.ending.try_begun.Goals as goal

pub returns-in-Err-clause-tried : goal.returns-in-Err-clause-tried
returns-in-Err-clause-tried g c =
    let bound = spent_few _ c.args.at.now.first c.args.at.now.count c.args.work.now.lanes.items c.try_passes.new.work.lanes.items c.args.steps.now c.try_passes.new.steps c.requires.turn.within c.requires.unknown c.try_passes.ensures.leaves.spends in
    record { answer = tt; holds = λ watched s h. tt; bound = bound }

pub returns-in-Some-clause-tried : goal.returns-in-Some-clause-tried
returns-in-Some-clause-tried g c =
    let bound = spent_few _ c.args.at.now.first c.args.at.now.count c.args.work.now.lanes.items c.try_passes.new.work.lanes.items c.args.steps.now c.try_passes.new.steps c.requires.turn.within c.requires.unknown c.try_passes.ensures.leaves.spends in
    record { answer = first_searched (turn_job c.args.at.now) c.args.at.now.first c.args.at.now.count c.try_passes.new.work.found c.requires.turn.within (c.in-Ok.ensures.searched c.requires.turn.plan).searched ∙ c.in-Some.is; holds = λ watched s h. tt; bound = bound }

pub take_in-requires-clause-serve : goal.take_in-requires-clause-serve
take_in-requires-clause-serve g c = (length c.args.work.now.scratch.items, length c.args.work.now.levels.items, rw (c.deref.ensures.value, c.try_passes.ensures.leaves.spends.kinds) c.requires.serve)

pub take_in-requires-clause-clear : goal.take_in-requires-clause-clear
take_in-requires-clause-clear g c = λ p.
    rw c.deref.ensures.value
    (searched_clear _ c.requires.turn.fits.job c.args.at.now.first c.args.at.now.count c.args.at.now.plan.now p c.try_passes.new.work.lanes.items c.try_passes.new.kept c.try_passes.new.work.found (c.in-Ok.ensures.searched p) c.in_default.is)

pub returns-in-Ok-take_in-clause-tried : goal.returns-in-Ok-take_in-clause-tried
returns-in-Ok-take_in-clause-tried g c =
    let bound = spent_few _ c.args.at.now.first c.args.at.now.count c.args.work.now.lanes.items c.try_passes.new.work.lanes.items c.args.steps.now c.try_passes.new.steps c.requires.turn.within c.requires.unknown c.try_passes.ensures.leaves.spends in
    record { answer = first_searched (turn_job c.args.at.now) c.args.at.now.first c.args.at.now.count c.try_passes.new.work.found c.requires.turn.within (c.in-Ok.ensures.searched c.requires.turn.plan).searched ∙ c.in_default.is; holds = c.in-Ok-take_in.ensures.holds; bound = bound }

pub returns-in-Err-take_in-clause-tried : goal.returns-in-Err-take_in-clause-tried
returns-in-Err-take_in-clause-tried g c =
    let bound = spent_few _ c.args.at.now.first c.args.at.now.count c.args.work.now.lanes.items c.try_passes.new.work.lanes.items c.args.steps.now c.try_passes.new.steps c.requires.turn.within c.requires.unknown c.try_passes.ensures.leaves.spends in
    record { answer = tt; holds = λ watched s h. tt; bound = bound }
