use Rattle.loop_keys.specs.{facts_in}
use Rattle.block_passes.specs.{turn_job}
use Rattle.block_passes.proofs.Feeding.{fed_hand, fed_low, feeds_any, last_there, only_takes}
use Rattle.block_passes.proofs.Selecting.{has_step}
use Rattle.block_passes.proofs.feed.feed_action.Goals as goal

pub last_step-last-requires : goal.last_step-last-requires
last_step-last-requires g c = has_step (turn_job c.args.at.now) c.requires.over.turn.fits.job c.args.at.now.first c.args.at.now.count c.args.at.now.pass c.args.at.now.plan.now c.requires.over.turn.plan c.requires.over.turn.within c.args.own.now.kind.now c.args.own.now.inputs.now c.args.own.now.under c.requires.own

pub bounds-kept-last : goal.bounds-kept-last
bounds-kept-last g c = last_there (turn_job c.args.at.now) c.requires.over.turn.fits.job c.args.at.now.first c.args.at.now.count c.args.at.now.pass c.args.own.now.kind.now c.args.own.now.inputs.now c.args.own.now.under c.requires.own c.args.at.now.plan.now c.requires.over.turn.plan c.last_step-last.result c.last_step-last.ensures c.args.lanes.now c.args.kept.now (c.requires.clear c.requires.over.turn.plan)

pub feed_copies-requires-clause-inside : goal.feed_copies-requires-clause-inside
feed_copies-requires-clause-inside g c = fed_low (turn_job c.args.at.now) c.requires.over.turn.fits.job c.args.at.now.first c.args.at.now.count c.args.at.now.pass c.args.own.now.kind.now c.args.own.now.inputs.now c.args.own.now.under c.requires.own c.args.at.now.plan.now c.requires.over.turn.plan c.last_step-last.result c.last_step-last.ensures c.args.lanes.now c.args.kept.now (c.requires.clear c.requires.over.turn.plan) c.index-kept-last.result

pub feed_copies-requires-clause-hand : goal.feed_copies-requires-clause-hand
feed_copies-requires-clause-hand g c = fed_hand (turn_job c.args.at.now) c.requires.over.turn.fits.job c.args.at.now.first c.args.at.now.count c.args.at.now.pass c.args.own.now.kind.now c.args.own.now.inputs.now c.args.own.now.under c.requires.own c.args.at.now.plan.now c.requires.over.turn.plan c.last_step-last.result c.last_step-last.ensures c.args.lanes.now c.args.kept.now (c.requires.clear c.requires.over.turn.plan) c.index-kept-last.result

pub feed_copies-requires-clause-feed : goal.feed_copies-requires-clause-feed
feed_copies-requires-clause-feed g c = let b = c.requires.begin in ((facts_in (turn_job c.args.at.now)), b.0, b.1, feeds_any (turn_job c.args.at.now) c.requires.over.turn.fits.job c.args.at.now.first c.args.at.now.count c.args.at.now.pass c.args.own.now.kind.now c.args.own.now.inputs.now c.args.own.now.under c.requires.own c.args.at.now.plan.now c.requires.over.turn.plan c.last_step-last.result c.last_step-last.ensures c.args.lanes.now c.args.kept.now (c.requires.clear c.requires.over.turn.plan) c.index-kept-last.result b.1 b.2 b.0 c.args.to.place c.args.to.cluster c.args.tally.now c.requires.place b.3 b.4 b.5)

pub returns-in_default-clause-holds : goal.returns-in_default-clause-holds
returns-in_default-clause-holds g c = λ watched s amid its at holds. c.feed_copies.ensures.holds (facts_in (turn_job c.args.at.now)) watched s (feeds_any (turn_job c.args.at.now) c.requires.over.turn.fits.job c.args.at.now.first c.args.at.now.count c.args.at.now.pass c.args.own.now.kind.now c.args.own.now.inputs.now c.args.own.now.under c.requires.own c.args.at.now.plan.now c.requires.over.turn.plan c.last_step-last.result c.last_step-last.ensures c.args.lanes.now c.args.kept.now (c.requires.clear c.requires.over.turn.plan) c.index-kept-last.result s amid watched c.args.to.place c.args.to.cluster c.args.tally.now c.requires.place its at holds)

pub feed_batch-requires : goal.feed_batch-requires
feed_batch-requires g c = let b = c.requires.begin in ((facts_in (turn_job c.args.at.now)), b.0, b.1, (feeds_any (turn_job c.args.at.now) c.requires.over.turn.fits.job c.args.at.now.first c.args.at.now.count c.args.at.now.pass c.args.own.now.kind.now c.args.own.now.inputs.now c.args.own.now.under c.requires.own c.args.at.now.plan.now c.requires.over.turn.plan c.last_step-last.result c.last_step-last.ensures c.args.lanes.now c.args.kept.now (c.requires.clear c.requires.over.turn.plan) c.index-kept-last.result b.1 b.2 b.0 c.args.to.place c.args.to.cluster c.args.tally.now c.requires.place b.3 b.4 b.5 (record { places = c.batch_places.result; sources = c.lanes_in_place.new.to }) (record { places = c.batch_places.ensures; gathered = λ p low among. c.in-Some.ensures p low })).0)

pub returns-clause-holds : goal.returns-clause-holds
returns-clause-holds g c = λ watched s amid its at holds. c.feed_batch.ensures.holds (facts_in (turn_job c.args.at.now)) watched s (feeds_any (turn_job c.args.at.now) c.requires.over.turn.fits.job c.args.at.now.first c.args.at.now.count c.args.at.now.pass c.args.own.now.kind.now c.args.own.now.inputs.now c.args.own.now.under c.requires.own c.args.at.now.plan.now c.requires.over.turn.plan c.last_step-last.result c.last_step-last.ensures c.args.lanes.now c.args.kept.now (c.requires.clear c.requires.over.turn.plan) c.index-kept-last.result s amid watched c.args.to.place c.args.to.cluster c.args.tally.now c.requires.place its at holds (record { places = c.batch_places.result; sources = c.lanes_in_place.new.to }) (record { places = c.batch_places.ensures; gathered = λ p low among. c.in-Some.ensures p low })).0

pub returns-clause-plain : goal.returns-clause-plain
returns-clause-plain g c = λ plain.
    let b = c.requires.begin in
    let can = feeds_any (turn_job c.args.at.now) c.requires.over.turn.fits.job c.args.at.now.first c.args.at.now.count c.args.at.now.pass c.args.own.now.kind.now c.args.own.now.inputs.now c.args.own.now.under c.requires.own c.args.at.now.plan.now c.requires.over.turn.plan c.last_step-last.result c.last_step-last.ensures c.args.lanes.now c.args.kept.now (c.requires.clear c.requires.over.turn.plan) c.index-kept-last.result b.1 b.2 b.0 c.args.to.place c.args.to.cluster c.args.tally.now c.requires.place b.3 b.4 b.5 (record { places = c.batch_places.result; sources = c.lanes_in_place.new.to }) (record { places = c.batch_places.ensures; gathered = λ p low among. c.in-Some.ensures p low }) in
    only_takes c.args.own.now.kind.now can.0.kind can.1 c.feed_batch.result (c.feed_batch.ensures.memory (facts_in (turn_job c.args.at.now)) b.0 b.1 can.0)
