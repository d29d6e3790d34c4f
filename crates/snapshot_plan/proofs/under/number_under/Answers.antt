use Rattle.lemmas.proofs.{subst, sym, Some}
use Rattle.snapshot_plan.specs.{IsNumber, Under, under_of}
use Rattle.snapshot_plan.proofs.Varied.{number_is}
use Rattle.snapshot_plan.proofs.under.number_under.Goals as goal

pub returns-in-Some : goal.returns-in-Some
returns-in-Some c =
    subst (λ (u : Under). IsNumber c.args.all.now (Some c.in-Some.v) (under_of u)) (sym c.in-Varied.is)
    (number_is c.args.all.now c.in-Some.v (record { name = c.in-Varied.name; tag = c.in-Varied.tag }) c.in-Some.ensures.0 c.in-Some.ensures.1)
