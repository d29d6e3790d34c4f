use Rattle.lemmas.proofs.{◌≡◌, ◌∷◌, ◌++◌, [], ◌∙◌, ℤ, w64, SFits, to_z, of_z, ap, arith, rules, common_steps, to_z-of_z}
use Rattle.script_read.proofs.Walked.{items_more, items_done, items_go, items_close}
use Rattle.script_read.proofs.walk.Walk.edges.Goals as goal

pub returns-in_err-edge-clause-stuck : goal.returns-in_err-edge-clause-stuck
returns-in_err-edge-clause-stuck c h k = let so_far = items_go _ k c.loop-self.invariant c.loop-self-test.ensures in grind (arith, common_steps)

pub loop-self-preserved : goal.loop-self-preserved
loop-self-preserved c =
    let fits : SFits w64 c.in_ok-edge.edge = first_of (search rules, grind (arith, common_steps)) in
    let same : to_z w64 (of_z w64 c.in_ok-edge.edge) ≡ c.in_ok-edge.edge = to_z-of_z w64 c.in_ok-edge.edge fits in
    items_more c.loop-self.invariant c.loop-self-test.ensures c.in_ok-edge.ensures.took (c.in_ok-push.ensures.items ∙ ap (λ (z : ℤ). c.loop-self.rest.items ++ z ∷ []) same)

pub returns-in_err-expect-2-clause-stuck : goal.returns-in_err-expect-2-clause-stuck
returns-in_err-expect-2-clause-stuck c h k =
    let so_far = items_close _ k c.loop-self.invariant c.loop-self-test.ensures.0 c.loop-self-test.ensures.1 in grind (arith, common_steps)

pub returns-clause-took : goal.returns-clause-took
returns-clause-took c = items_done c.loop-self.invariant c.loop-self-test.ensures.0 c.loop-self-test.ensures.1 c.in_ok-expect-2.ensures.took
