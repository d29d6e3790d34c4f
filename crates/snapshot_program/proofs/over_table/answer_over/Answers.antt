use Rattle.entry_fns.specs.{functions_in}
use Rattle.snapshot_program.proofs.Answering.{unplanned_answer}
use Rattle.snapshot_program.proofs.Plans.{run_answer}
use Rattle.snapshot_program.proofs.over_table.answer_over.Goals as goal

pub returns-in-Refused : goal.returns-in-Refused
returns-in-Refused g c =
    let planned = rw c.in-Refused.is at c.in_ok-plan.ensures in
    unplanned_answer (functions_in c.args.functions.now) c.args.command.now c.args.inputs.script c.args.inputs.columns.table c.in-Refused.answer planned

pub returns : goal.returns
returns g c =
    let planned = rw c.in-Plan.is at c.in_ok-plan.ensures in
    run_answer (functions_in c.args.functions.now) c.args.command.now c.args.inputs.script c.args.inputs.columns.table c.in-Plan.plan c.answer_run.result planned
    c.answer_run.ensures
