use Rattle.loop_keys.proofs.PassNumbers.{action_next}
use Rattle.block_cache.specs.{kinds_of}
use Rattle.block_passes.specs.{turn_job}
use Rattle.block_passes.proofs.Feeding.{one_further, read_action, takes_none}
use Rattle.block_passes.proofs.Selecting.{gathers, read_plain}
use Rattle.block_passes.proofs.feed.feed_pass.Goals as goal

pub feed_action-requires-clause-can : goal.feed_action-requires-clause-can
feed_action-requires-clause-can g c =
    let s = c.requires.serve in
    let h = c.requires.clear c.requires.turn.plan in
    gathers (turn_job c.args.at.now) c.requires.turn.fits.job c.args.at.now.first c.args.at.now.count c.args.at.now.pass c.args.at.now.plan.now c.requires.turn.plan h.ready.within c.in-Some.read.kind.now c.in-Some.read.inputs.now c.in-Some.read.under c.in-Some.ensures.action h.ready.some (kinds_of c.args.lanes.now) c.args.at.now.cells.now s.0 s.1 (s.2 c.args.at.now.pass c.in-Some.read.kind.now c.in-Some.read.inputs.now c.in-Some.read.under c.in-Some.ensures.action)

pub returns-clause-place : goal.returns-clause-place
returns-clause-place g c = action_next (turn_job c.args.at.now) c.args.at.now.pass c.args.to.place (read_action (turn_job c.args.at.now) c.args.at.now.pass c.in-Some.read.kind.now c.in-Some.read.inputs.now c.in-Some.read.under c.in-Some.ensures.action) c.requires.place

pub returns-clause-holds : goal.returns-clause-holds
returns-clause-holds g c = λ watched s amid its at holds. one_further (turn_job c.args.at.now) c.args.at.now.first c.args.at.now.count c.args.to.cluster watched s c.feed_action.new.tally c.args.to.place at (c.in_ok-feed_action.ensures.holds watched s amid its at holds)

pub returns-in_err-feed_action-clause-plain : goal.returns-in_err-feed_action-clause-plain
returns-in_err-feed_action-clause-plain g c = λ loop none.
    let read = c.in-Some.ensures.action in
    absurd (takes_none _ c.args.at.now.pass c.in-Some.read.kind.now c.in-Some.read.inputs.now c.in-Some.read.under read none
    (c.in_err-feed_action.ensures.plain (record { used = loop.used; sites = loop.sites; inputs = read_plain _ c.args.at.now.pass c.in-Some.read.kind.now c.in-Some.read.inputs.now c.in-Some.read.under read loop })))
