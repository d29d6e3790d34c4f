use Rattle.lemmas.proofs.{◌∷◌, ◌∙◌, [], ap, arith, map, common_steps, map-append}
use Rattle.script_read.specs.{quoted_of}
use Rattle.script_read.proofs.Walked.{items_more, items_done, items_go, items_close}
use Rattle.script_read.proofs.walk.Walk.strings.Goals as goal

pub returns-in_err-text-clause-stuck : goal.returns-in_err-text-clause-stuck
returns-in_err-text-clause-stuck c h k = let so_far = items_go _ k c.loop-self.invariant c.loop-self-test.ensures in grind (arith, common_steps)

pub loop-self-preserved : goal.loop-self-preserved
loop-self-preserved c = items_more c.loop-self.invariant c.loop-self-test.ensures c.in_ok-text.ensures.took (ap (map quoted_of) c.in_ok-push.ensures.items ∙ map-append quoted_of c.loop-self.rest.items (c.in_ok-text.text ∷ []))

pub returns-in_err-expect-2-clause-stuck : goal.returns-in_err-expect-2-clause-stuck
returns-in_err-expect-2-clause-stuck c h k =
    let so_far = items_close _ k c.loop-self.invariant c.loop-self-test.ensures.0 c.loop-self-test.ensures.1 in grind (arith, common_steps)

pub returns-clause-took : goal.returns-clause-took
returns-clause-took c = items_done c.loop-self.invariant c.loop-self-test.ensures.0 c.loop-self-test.ensures.1 c.in_ok-expect-2.ensures.took
