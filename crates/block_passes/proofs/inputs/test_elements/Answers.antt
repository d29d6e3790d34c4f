use Rattle.block_passes.specs.{turn_job, source_fault}
use Rattle.graph_numbers.specs.{Source}
use Rattle.block_passes.proofs.PlanSteps.{fault_few}
use Rattle.block_passes.proofs.Feeding.{part_served}
use Rattle.block_passes.proofs.inputs.test_elements.Goals as goal

pub note-requires : goal.note-requires
note-requires g c =
    fault_few (source_fault (turn_job c.args.at.now) c.args.at.now.first c.args.of.now.under (Source.Element c.args.of.now.site c.args.of.now.nth c.args.of.now.tags)) c.args.to.now.places c.args.work.now.found.limit c.args.at.now.count c.args.at.now.first c.as_slice-rising.ensures.rising c.requires.selected.inside c.requires.known.limit c.requires.known.turn.few
    c.first_without-fault.result c.first_without-fault.ensures

pub returns-clause-tested : goal.returns-clause-tested
returns-clause-tested g c =
    part_served (turn_job c.args.at.now) c.args.at.now.first c.args.at.now.count (source_fault (turn_job c.args.at.now) c.args.at.now.first c.args.of.now.under (Source.Element c.args.of.now.site c.args.of.now.nth c.args.of.now.tags)) c.args.at.now.pass c.args.to.now c.narrow-made.new.self c.args.work.now.lanes.items c.args.work.now.found c.note.new.self
    c.first_without-fault.result c.requires.known.ready c.requires.known.settled c.as_slice-rising.ensures.rising c.requires.selected.inside c.first_without-fault.ensures c.note.ensures
    c.requires.selected.made (c.narrow-made.ensures.some c.args.work.now.found.limit c.requires.selected.made)
