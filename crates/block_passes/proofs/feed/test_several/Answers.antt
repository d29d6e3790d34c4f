use Rattle.block_passes.specs.{unfed, turn_job}
use Rattle.block_passes.proofs.PlanSteps.{fault_few}
use Rattle.block_passes.proofs.Feeding.{part_served}
use Rattle.block_passes.proofs.feed.test_several.Goals as goal

pub note-requires : goal.note-requires
note-requires g c =
    fault_few (unfed (turn_job c.args.at.now) c.args.at.now.first c.args.own.now.kind.now c.args.own.now.inputs.now c.args.own.now.under) c.args.to.now.places c.args.work.now.found.limit c.args.at.now.count c.args.at.now.first c.as_slice-rising.ensures.rising c.requires.selected.inside c.requires.known.limit c.requires.known.turn.few
    c.in_ok-fault.fault c.in_ok-fault.ensures.fault

pub returns-clause-tested : goal.returns-clause-tested
returns-clause-tested g c =
    part_served (turn_job c.args.at.now) c.args.at.now.first c.args.at.now.count (unfed (turn_job c.args.at.now) c.args.at.now.first c.args.own.now.kind.now c.args.own.now.inputs.now c.args.own.now.under) c.args.at.now.pass c.args.to.now c.narrow-made.new.self c.args.work.now.lanes.items c.args.work.now.found c.note.new.self
    c.in_ok-fault.fault c.requires.known.ready c.requires.known.settled c.as_slice-rising.ensures.rising c.requires.selected.inside c.in_ok-fault.ensures.fault c.note.ensures
    c.requires.selected.made (c.narrow-made.ensures.some c.args.work.now.found.limit c.requires.selected.made)
