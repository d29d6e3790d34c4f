use Rattle.lemmas.proofs.{arith, rules}
use Rattle.block_cache.proofs.UnderwayLaws.{can_lead, held_filled, lead_lower, lead_used, led_begun, led_filled, led_selected, led_spent}
use Rattle.block_cache.proofs.leads.+fill_led.Goals as goal

pub returns-then-is_held-clause-filled : goal.returns-then-is_held-clause-filled
returns-then-is_held-clause-filled g t c = held_filled c.args.wanted.now c.requires.ready c.requires.selected (rw c.key-own.ensures.key at c.is_held.ensures.held c.if-is_held.true)

pub invariant_of-lead : goal.invariant_of-lead
invariant_of-lead g t c = record { there = omega (arith, lead_lower c.args.wanted.now c.in-Some.site c.in-Some.ensures, c.args.wanted.now.there) }

pub fill_led-requires : goal.fill_led-requires
fill_led-requires g t c κs within =
    let lower = lead_lower c.args.wanted.now c.in-Some.site c.in-Some.ensures in
    let can = can_lead c.args.wanted.now c.in-Some.site c.in-Some.ensures c.requires.can in
    (omega (arith, lower, c.decreases), (search rules, (c.requires.ready, (can, (c.requires.selected, c.requires.settled)))))

pub returns-in_err-under-clause-spent : goal.returns-in_err-under-clause-spent
returns-in_err-under-clause-spent g t c = led_begun c.args.wanted.now c.in-Some.site c.in-Some.ensures c.in_err-under.ensures.spent

pub returns-in_err-under-clause-plain : goal.returns-in_err-under-clause-plain
returns-in_err-under-clause-plain g t c = λ used p q. absurd (c.in_err-under.ensures.plain used p (lead_used c.args.wanted.now c.in-Some.site c.in-Some.ensures used p q))

pub fill-requires-2-clause-selected : goal.fill-requires-2-clause-selected
fill-requires-2-clause-selected g t c = led_selected c.args.wanted.now c.in-Some.site c.in-Some.ensures c.in_ok-under.ensures.spent c.in_ok-under.ensures.filled c.requires.selected

pub returns-in_err-found-clause-spent : goal.returns-in_err-found-clause-spent
returns-in_err-found-clause-spent g t c = led_spent c.args.wanted.now c.in-Some.site c.in-Some.ensures c.in_ok-under.ensures.spent c.in_ok-under.ensures.filled c.in_err-found.ensures.spent

pub returns-in_err-found-clause-plain : goal.returns-in_err-found-clause-plain
returns-in_err-found-clause-plain g t c = λ used p q. absurd (c.in_err-found.ensures.plain used p q)

pub returns-clause-spent : goal.returns-clause-spent
returns-clause-spent g t c = led_spent c.args.wanted.now c.in-Some.site c.in-Some.ensures c.in_ok-under.ensures.spent c.in_ok-under.ensures.filled c.in_ok-found.ensures.spent

pub returns-clause-filled : goal.returns-clause-filled
returns-clause-filled g t c =
    rw c.lowered.ensures
    (led_filled c.args.wanted.now c.in-Some.site c.in-Some.ensures c.in_ok-under.ensures.spent c.in_ok-under.ensures.filled c.in_ok-found.ensures.spent c.as_slice-rising.ensures.rising c.requires.selected c.in_ok-found.ensures.filled.filled)
