use Rattle.lemmas.proofs.{sym, subst}
use Rattle.snapshot_entries.specs.{AreServed, data_of, plan_of}
use Rattle.snapshot_entries.proofs.Answering.{served_more}
use Rattle.snapshot_entries.proofs.values.+serve_columns.Goals as goal

pub returns-in-Ok-clause-served : goal.returns-in-Ok-clause-served
returns-in-Ok-clause-served g t c =
    let p = plan_of c.args.at.now.job.now in
    let d = data_of c.args.at.now.job.now in
    let e = c.args.at.now.entry in
    subst (λ cs. AreServed p d c.serve_columns.new.cells e cs c.serve_columns.result) (sym c.in-Some.ensures.cases.0)
    (served_more p d c.serve_column.new.cells c.serve_columns.new.cells e c.in-Some.first.now c.in-Some.rest.now c.serve_columns.result c.in-Ok.ensures.served c.serve_columns.ensures.grows c.serve_columns.ensures.served)
