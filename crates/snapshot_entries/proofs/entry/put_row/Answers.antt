use Rattle.snapshot_entries.specs.{data_of, plan_of}
use Rattle.snapshot_entries.proofs.Answering.{row_stopped}
use Rattle.snapshot_entries.proofs.entry.put_row.Goals as goal

pub returns-in-Err-clause-answer : goal.returns-in-Err-clause-answer
returns-in-Err-clause-answer g c =
    row_stopped (plan_of c.args.at.now.job.now) (data_of c.args.at.now.job.now) c.serve_columns.new.cells c.args.at.now.entry c.args.columns.now c.args.text.now c.args.text.now c.in-Err.stop c.in-Err.ensures.served
