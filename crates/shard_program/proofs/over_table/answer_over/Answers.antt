use Rattle.entry_fns.specs.{functions_in}
use Rattle.table_csv.specs.{marked_in}
use Rattle.shard_program.proofs.OverTables.{script_refused, table_due}
use Rattle.shard_program.proofs.over_table.answer_over.Goals as goal

pub returns-in-Ok : goal.returns-in-Ok
returns-in-Ok g c =
    table_due (functions_in c.args.functions.now) c.args.script (marked_in c.args.columns.now) c.args.run.now.size c.args.run.now.clusters c.args.columns.now c.columns.result.now c.names.result.now c.in-Ok.graph c.answer_span.result
    c.requires.over c.columns.ensures.value c.names.ensures c.in-Ok.ensures c.answer_span.ensures

pub returns-in-Err-At : goal.returns-in-Err-At
returns-in-Err-At g c =
    script_refused (functions_in c.args.functions.now) c.args.script (marked_in c.args.columns.now) c.args.run.now.size c.args.run.now.clusters c.args.columns.now c.columns.result.now c.names.result.now _ c.in-Err-At.line _ c.in-Err-At.cause _ _
    c.requires.over c.columns.ensures.value c.names.ensures c.in-Err-At.field-0-is c.in-Err-At.ensures (cc c.in-Err-At.line-is) (cc c.in-Err-At.cause-is) c.of_script.ensures
