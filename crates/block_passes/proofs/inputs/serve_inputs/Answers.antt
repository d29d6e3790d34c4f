use Rattle.lemmas.proofs.{length}
use Rattle.std.proofs.lemmas.List.Elements.{All-from_recursion}
use Rattle.loop_keys.specs.{IsSourceIn, source_at}
use Rattle.block_passes.specs.{CanServeInTurn, turn_job}
use Rattle.block_passes.proofs.Serving.{all_served, begin_served, hand_served, next_demanded, next_served, leaves_then}
use Rattle.block_passes.proofs.inputs.serve_inputs.Goals as goal

pub loop-version-init : goal.loop-version-init
loop-version-init g c = begin_served c.args.at.now c.args.under c.args.inputs.now c.args.work.now c.args.to.now c.args.steps.now c.requires.known c.requires.selected c.requires.demanded

pub is_at_hand-requires-clause-can : goal.is_at_hand-requires-clause-can
is_at_hand-requires-clause-can g c =
    let leaves = c.loop-version.invariant.leaves in
    (length c.args.work.now.scratch.items, length c.args.work.now.levels.items, rw (c.deref.ensures.value, leaves.spends.kinds) (All-from_recursion (CanServeInTurn c.args.at.now c.args.under c.args.work.now) c.args.inputs.now c.requires.can c.loop-version.version-index 0 c.loop-version-test.true))

pub loop-version-preserved-then-is_at_hand : goal.loop-version-preserved-then-is_at_hand
loop-version-preserved-then-is_at_hand g c =
    let yes = c.if-is_at_hand.true in
    hand_served c.args.at.now c.args.under c.args.inputs.now c.args.to.now.places c.args.work.now c.args.steps.now c.loop-version.version-index c.loop-version.work c.loop-version.to c.loop-version.steps c.loop-version.invariant c.loop-version-test.true (c.is_at_hand.ensures.clear yes) (rw c.deref.ensures.value at (c.is_at_hand.ensures.held yes))

pub serve_version-requires-clause-demanded : goal.serve_version-requires-clause-demanded
serve_version-requires-clause-demanded g c = next_demanded c.args.at.now c.args.under c.args.inputs.now c.args.to.now.places c.args.work.now c.args.steps.now c.loop-version.version-index c.loop-version.work c.loop-version.to c.loop-version.steps c.loop-version.invariant c.loop-version-test.true

pub loop-version-preserved : goal.loop-version-preserved
loop-version-preserved g c =
    next_served c.args.at.now c.args.under c.args.inputs.now c.args.to.now.places c.args.work.now c.args.steps.now c.loop-version.version-index c.loop-version.work c.loop-version.to c.loop-version.steps c.loop-version.invariant c.loop-version-test.true c.serve_version.new.work c.serve_version.new.to c.serve_version.new.steps
    c.serve_version.ensures.leaves c.in_ok-serve_version.ensures.served c.in_ok-serve_version.ensures.held

pub returns-in_err-serve_version-clause-leaves : goal.returns-in_err-serve_version-clause-leaves
returns-in_err-serve_version-clause-leaves g c = leaves_then _ _ _ _ _ _ _ c.loop-version.invariant.leaves c.serve_version.ensures.leaves

pub returns-in_err-serve_version-clause-plain : goal.returns-in_err-serve_version-clause-plain
returns-in_err-serve_version-clause-plain g c = λ used p all.
    absurd (c.in_err-serve_version.ensures.plain used p (All-from_recursion (λ v. IsSourceIn used (source_at (turn_job c.args.at.now) c.args.under v)) c.args.inputs.now all c.loop-version.version-index 0 c.loop-version-test.true))

pub returns-clause-served : goal.returns-clause-served
returns-clause-served g c = (all_served c.args.at.now c.args.under c.args.inputs.now c.args.to.now.places c.args.work.now c.args.steps.now c.loop-version.version-index c.loop-version.work c.loop-version.to c.loop-version.steps c.loop-version.invariant c.loop-version-test.false).0

pub returns-clause-held : goal.returns-clause-held
returns-clause-held g c = (all_served c.args.at.now c.args.under c.args.inputs.now c.args.to.now.places c.args.work.now c.args.steps.now c.loop-version.version-index c.loop-version.work c.loop-version.to c.loop-version.steps c.loop-version.invariant c.loop-version-test.false).1
