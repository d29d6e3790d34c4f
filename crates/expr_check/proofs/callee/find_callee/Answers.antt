use Rattle.expr_check.proofs.WellTyped.{found_built_in, found_none, found_given}
use Rattle.expr_check.proofs.callee.find_callee.Goals as goal

pub returns-in-Some : goal.returns-in-Some
returns-in-Some c = (found_built_in c.args.names.now c.args.name.now _ _ c.bytes.ensures (λ other. c.in-Some.ensures.named other), c.in-Some.ensures.callable _)

pub returns-in-None-find : goal.returns-in-None-find
returns-in-None-find c = found_none c.args.names.now c.args.name.now _ c.bytes.ensures (λ other. c.in-None.ensures.named other) c.in-None-find.ensures

pub returns-in-Some-find : goal.returns-in-Some-find
returns-in-Some-find c = (found_given c.args.names.now c.args.name.now _ _ c.bytes.ensures (λ other. c.in-None.ensures.named other) c.len.ensures.valid c.in-Some-find.ensures.0 c.in-Some-find.ensures.1, c.in-Some-find.ensures.0)
