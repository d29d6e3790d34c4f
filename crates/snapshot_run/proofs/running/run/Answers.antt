use Rattle.lemmas.proofs.{List, Ok, ℕ, subst, sym}
use Rattle.graph_numbers.specs.{IsGraph}
use Rattle.snapshot_entries.specs.{data_of, plan_of}
use Rattle.snapshot_run.specs.{AreRecords}
use Rattle.snapshot_run.proofs.Whole.{is_run, is_work}
use Rattle.snapshot_run.proofs.running.run.Goals as goal

pub make_records-requires-clause-work : goal.make_records-requires-clause-work
make_records-requires-clause-work g c = λ κs h.
    is_work (plan_of c.args.job.now) (data_of c.args.job.now) c.requires.columns c.requires.functions (subst IsGraph c.graph.ensures c.is_booked.ensures) c.is_planned.ensures c.columns-columns.ensures.valid

pub returns : goal.returns
returns g c =
    let p = plan_of c.args.job.now in
    let d = data_of c.args.job.now in
    is_run p d c.as_slice.result.now c.put_together.result (subst (λ (t : List (List ℕ)). AreRecords p d (Ok t)) (sym c.as_slice.ensures) c.in_ok-records.ensures) c.put_together.ensures
