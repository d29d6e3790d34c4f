use Rattle.lemmas.proofs.{◌++◌, ◌∙◌, ap, [], ◌∷◌}
use Rattle.block_passes.specs.{Step}
use Rattle.block_passes.proofs.PlanSteps.{planned, root, root_steps}
use Rattle.block_passes.proofs.plan.LoopPlan.new.Goals as goal

pub pass_steps-requires-clause-steps : goal.pass_steps-requires-clause-steps
pass_steps-requires-clause-steps g c = (root, root_steps c.push.new.self (c.in_ok-push.ensures.ok ∙ ap (λ xs. xs ++ Step.Block ∷ []) c.new-steps.ensures))

pub filter_steps-requires-clause-steps : goal.filter_steps-requires-clause-steps
filter_steps-requires-clause-steps g c =
    let h = c.in_ok-passes.ensures root (root_steps c.push.new.self (c.in_ok-push.ensures.ok ∙ ap (λ xs. xs ++ Step.Block ∷ []) c.new-steps.ensures)) in (root ++ h.more, h.are)

pub returns : goal.returns
returns g c =
    let h = c.in_ok-passes.ensures root (root_steps c.push.new.self (c.in_ok-push.ensures.ok ∙ ap (λ xs. xs ++ Step.Block ∷ []) c.new-steps.ensures)) in
    planned _ c.pass_steps.new.steps c.filter_steps.new.steps c.in_ok-passes.passes c.in_ok-filters.filters h (c.in_ok-filters.ensures (root ++ h.more) h.are)
