use Rattle.lemmas.proofs.{ℕ, List, get_or, subst, sym, take, slice_get-get_or, take_next}
use Rattle.block_passes.specs.{IsLed}
use Rattle.block_passes.proofs.PlanSteps.{path_goes_on}
use Rattle.block_passes.proofs.plan.path_steps.Goals as goal

pub loop-site-preserved : goal.loop-site-preserved
loop-site-preserved c = λ chains are.
    let at = c.loop-site.invariant chains are in
    let site = get_or c.args.path.now c.loop-site.site-index 0 in
    subst (λ (l : List ℕ). IsLed chains l c.args.under c.next_step.new.steps c.in_ok-last.last) (sym (take_next c.args.path.now c.loop-site.site-index site (slice_get-get_or c.args.path.now c.loop-site.site-index 0 c.loop-site-test.true)))
    (path_goes_on chains (take c.loop-site.site-index c.args.path.now) c.args.under c.loop-site.steps c.next_step.new.steps c.loop-site.last c.in_ok-last.last site at (c.in_ok-last.ensures _ at.right.chain at.are at.right.its at.right.alike))
