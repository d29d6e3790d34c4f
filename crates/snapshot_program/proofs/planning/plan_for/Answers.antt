use Rattle.entry_fns.specs.{functions_in}
use Rattle.snapshot_program.proofs.Plans.{found_due, found_within, planned_due}
use Rattle.snapshot_program.proofs.planning.plan_for.Goals as goal

pub unplanned-requires : goal.unplanned-requires
unplanned-requires g c =
    found_within (functions_in c.args.functions.now) c.args.command.now c.args.script c.args.columns.now.table.columns c.columns.result.now c.names.result.now c.in-Ok.graph c.as_slice.result.now
    c.columns.ensures.value c.names.ensures c.as_slice.ensures c.in-Ok.ensures _ _ c.in-Err-At-plan.cause c.in-Err-At-plan.field-0-is c.in-Err-At-plan.ensures (cc c.in-Err-At-plan.cause-is)

pub returns-in-Ok-plan : goal.returns-in-Ok-plan
returns-in-Ok-plan g c =
    planned_due (functions_in c.args.functions.now) c.args.command.now c.args.script c.args.columns.now.table.columns c.columns.result.now c.names.result.now c.in-Ok.graph c.as_slice.result.now
    c.columns.ensures.value c.names.ensures c.as_slice.ensures c.in-Ok.ensures c.in-Ok-plan.plan c.in-Ok-plan.ensures

pub returns-in_ok-unplanned-in-Err-At-plan : goal.returns-in_ok-unplanned-in-Err-At-plan
returns-in_ok-unplanned-in-Err-At-plan g c =
    found_due (functions_in c.args.functions.now) c.args.command.now c.args.script c.args.columns.now.table.columns c.columns.result.now c.names.result.now c.in-Ok.graph c.as_slice.result.now
    c.columns.ensures.value c.names.ensures c.as_slice.ensures c.in-Ok.ensures _ _ c.in-Err-At-plan.cause c.in_ok-unplanned-in-Err-At-plan.field-0 c.in-Err-At-plan.field-0-is c.in-Err-At-plan.ensures (cc c.in-Err-At-plan.cause-is)
    c.in_ok-unplanned-in-Err-At-plan.ensures
