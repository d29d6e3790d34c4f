use Rattle.lemmas.proofs.{◌≡◌, ◌+◌, ◌∙◌, arith, length, rules}
use Rattle.loop_keys.specs.{job_of}
use Rattle.block_cache.proofs.Attempts.{can_below, can_moved, met_used, can_try}
use Rattle.block_cache.proofs.LaneSteps.{on_err}
use Rattle.block_cache.proofs.UnderwayLaws.{ended_filled, ended_settled, left_lacks, left_selected, turn_broken, turn_lower, turn_selected, turn_settled, turn_spent, turn_waits, turned, turned_less}
use Rattle.block_cache.proofs.fill.+fill_site.Goals as goal

pub begin-requires-clause-can : goal.begin-requires-clause-can
begin-requires-clause-can g t c = can_try c.args.wanted.now c.requires.ready c.requires.can

pub needed_site-site-requires-clause-version : goal.needed_site-site-requires-clause-version
needed_site-site-requires-clause-version g t c = (turn_waits c.args.wanted.now c.loop-level.invariant c.next_group.result c.next_group.ensures.group _ c.next_group.ensures.first).there

pub needed_site-site-requires-clause-site : goal.needed_site-site-requires-clause-site
needed_site-site-requires-clause-site g t c = let waits = turn_waits c.args.wanted.now c.loop-level.invariant c.next_group.result c.next_group.ensures.group _ c.next_group.ensures.first in (waits.site, waits.source)

pub unreachable-requires : goal.unreachable-requires
unreachable-requires g t c =
    let waits = turn_waits c.args.wanted.now c.loop-level.invariant c.next_group.result c.next_group.ensures.group _ c.next_group.ensures.first in
    let below = can_below _ c.args.wanted.now.block.now.fits.job _ c.needed_site-site.result _ (length c.args.levels.1.now) c.requires.can waits.met c.needed_site-site.ensures (omega arith) in
    let room = below.room in
    omega (arith, room, c.in-None.ensures.cases, c.loop-level.auto.deeper)

pub invariant_of-needed : goal.invariant_of-needed
invariant_of-needed g t c =
    let lower = turn_lower c.args.wanted.now c.loop-level.invariant c.next_group.result c.next_group.ensures.group _ c.next_group.ensures.first c.needed_site-site.result c.needed_site-site.ensures in
    record { there = omega (arith, lower, c.args.wanted.now.there) }

pub fill_site-requires : goal.fill_site-requires
fill_site-requires g t c κs within =
    let waits = turn_waits c.args.wanted.now c.loop-level.invariant c.next_group.result c.next_group.ensures.group _ c.next_group.ensures.first in
    let lower = turn_lower c.args.wanted.now c.loop-level.invariant c.next_group.result c.next_group.ensures.group _ c.next_group.ensures.first c.needed_site-site.result c.needed_site-site.ensures in
    let many : length c.in-Some.next.1.now + 1 ≡ length c.loop-level.deeper = c.in-Some.ensures.cases.1 in
    let below = can_below _ c.args.wanted.now.block.now.fits.job _ c.needed_site-site.result _ (length c.in-Some.next.1.now + 1) c.requires.can waits.met c.needed_site-site.ensures (omega (arith, many, c.loop-level.auto.deeper)) in
    let can = can_moved below c.loop-level.invariant.grown.kinds (c.loop-level.auto.scratch ∙ c.begin.auto.scratch) in
    let selected = turn_selected c.args.wanted.now c.loop-level.invariant c.next_group.result c.next_group.ensures.group _ c.next_group.ensures.first in
    let settled = turn_settled c.args.wanted.now c.loop-level.invariant c.next_group.result c.next_group.ensures.group _ c.next_group.ensures.first c.needed_site-site.result c.needed_site-site.ensures in
    (omega (arith, lower, c.decreases), (search rules, (c.loop-level.invariant.ready, (can, (selected, settled)))))

pub returns-in_err-below-in-Some-clause-spent : goal.returns-in_err-below-in-Some-clause-spent
returns-in_err-below-in-Some-clause-spent g t c =
    turn_spent c.args.wanted.now c.loop-level.invariant c.next_group.result c.next_group.ensures.group _ c.next_group.ensures.first c.needed_site-site.result c.needed_site-site.ensures c.in_err-below-in-Some.ensures.spent

pub returns-in_err-below-in-Some-clause-plain : goal.returns-in_err-below-in-Some-clause-plain
returns-in_err-below-in-Some-clause-plain g t c =
    let waits = turn_waits c.args.wanted.now c.loop-level.invariant c.next_group.result c.next_group.ensures.group _ c.next_group.ensures.first in
    on_err c.from_residual-in_err-below-in-Some.result (λ used p q. c.in_err-below-in-Some.ensures.plain used p (met_used (job_of c.args.wanted.now.block.now.at.now.job.now) c.args.wanted.now.block.now.fits.job _ _ _ _ c.needed_site-site.result used p q waits.met c.needed_site-site.ensures))

pub resume-requires-clause-can : goal.resume-requires-clause-can
resume-requires-clause-can g t c =
    can_try c.args.wanted.now c.in_ok-below-in-Some.ensures.filled.filled.ready
    (can_moved c.requires.can (c.in_ok-below-in-Some.ensures.spent.grown.kinds ∙ c.loop-level.invariant.grown.kinds) (c.fill_site.auto.scratch ∙ c.loop-level.auto.scratch ∙ c.begin.auto.scratch))

pub resume-requires-clause-selected : goal.resume-requires-clause-selected
resume-requires-clause-selected g t c =
    left_selected c.args.wanted.now c.loop-level.invariant c.next_group.result c.next_group.ensures.group _ c.next_group.ensures.first c.needed_site-site.result c.needed_site-site.ensures
    c.in_ok-below-in-Some.ensures.spent c.in_ok-below-in-Some.ensures.filled c.in_ok-below-in-Some.ensures.settled c.in_ok-below-in-Some.ensures.begun

pub resume-requires-clause-lacks : goal.resume-requires-clause-lacks
resume-requires-clause-lacks g t c =
    left_lacks c.args.wanted.now c.loop-level.invariant c.next_group.result c.next_group.ensures.group _ c.next_group.ensures.first c.needed_site-site.result c.needed_site-site.ensures
    c.in_ok-below-in-Some.ensures.spent c.in_ok-below-in-Some.ensures.filled c.in_ok-below-in-Some.ensures.settled c.in_ok-below-in-Some.ensures.begun

pub loop-level-smaller : goal.loop-level-smaller
loop-level-smaller g t c =
    turned_less c.args.wanted.now c.loop-level.invariant c.next_group.result c.next_group.ensures.group _ c.next_group.ensures.first c.needed_site-site.result c.needed_site-site.ensures
    c.in_ok-below-in-Some.ensures.spent c.in_ok-below-in-Some.ensures.filled c.in_ok-below-in-Some.ensures.settled c.in_ok-below-in-Some.ensures.begun
    (rw (c.lowered.ensures, c.next_group.ensures.lacking, c.next_group.ensures.needs) at c.in_ok-fault-2.ensures.resumed) c.in_ok-fault-2.ensures.steps

pub loop-level-preserved : goal.loop-level-preserved
loop-level-preserved g t c =
    turned c.args.wanted.now c.loop-level.invariant c.next_group.result c.next_group.ensures.group _ c.next_group.ensures.first c.needed_site-site.result c.needed_site-site.ensures
    c.in_ok-below-in-Some.ensures.spent c.in_ok-below-in-Some.ensures.filled c.in_ok-below-in-Some.ensures.settled c.in_ok-below-in-Some.ensures.begun
    (rw (c.lowered.ensures, c.next_group.ensures.lacking, c.next_group.ensures.needs) at c.in_ok-fault-2.ensures.resumed) c.in_ok-fault-2.ensures.steps

pub returns-clause-filled : goal.returns-clause-filled
returns-clause-filled g t c = ended_filled c.args.wanted.now c.loop-level.invariant (omega (arith, c.len.ensures.count, c.loop-level-test.false)) c.begin.ensures.rising c.keep_below.ensures

pub returns-clause-settled : goal.returns-clause-settled
returns-clause-settled g t c = ended_settled c.args.wanted.now c.loop-level.invariant (omega (arith, c.len.ensures.count, c.loop-level-test.false)) c.keep_below.ensures

pub returns-in_err-fault-2-clause-spent : goal.returns-in_err-fault-2-clause-spent
returns-in_err-fault-2-clause-spent g t c =
    turn_broken c.args.wanted.now c.loop-level.invariant c.next_group.result c.next_group.ensures.group _ c.next_group.ensures.first c.needed_site-site.result c.needed_site-site.ensures
    c.in_ok-below-in-Some.ensures.spent c.in_ok-below-in-Some.ensures.filled c.in_ok-below-in-Some.ensures.settled c.in_ok-below-in-Some.ensures.begun c.in_err-fault-2.ensures.broken
