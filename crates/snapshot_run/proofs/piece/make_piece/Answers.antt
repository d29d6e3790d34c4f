use Rattle.lemmas.proofs.{Ok, sym, ap, ◌∙◌, subst, slice_get}
use Rattle.columns.specs.Views.{CutsView}
use Rattle.snapshot_entries.specs.{data_of, IsSkimAnswer, plan_of}
use Rattle.snapshot_run.specs.{spans_of}
use Rattle.snapshot_run.proofs.Making.{is_range, piece_made, piece_stopped}
use Rattle.snapshot_run.proofs.piece.make_piece.Goals as goal

pub cluster-requires-clause-span : goal.cluster-requires-clause-span
cluster-requires-clause-span g c =
    is_range (data_of c.args.job.now) c.args.job.now.columns.now.cuts c.args.cluster c.range-span.result
    (sym (ap (λ (k : CutsView). k.entries) c.cuts.ensures.value) ∙ c.cuts.ensures.valid)
    (sym (ap (λ (k : CutsView). slice_get (spans_of k) c.args.cluster) c.cuts.ensures.value) ∙ c.range-span.ensures)

pub returns-in-Ok-clause-made : goal.returns-in-Ok-clause-made
returns-in-Ok-clause-made g c =
    let p = plan_of c.args.job.now in
    let d = data_of c.args.job.now in
    piece_made p d (spans_of c.args.job.now.columns.now.cuts) c.args.cluster c.range-span.result
    (sym (ap (λ (k : CutsView). slice_get (spans_of k) c.args.cluster) c.cuts.ensures.value) ∙ c.range-span.ensures) c.cluster.new.text
    (subst (λ t. IsSkimAnswer p d c.range-span.result t c.cluster.new.text (Ok tt)) c.new-text.ensures c.in-Ok.ensures.answer)

pub returns-in-Err-clause-made : goal.returns-in-Err-clause-made
returns-in-Err-clause-made g c =
    piece_stopped (plan_of c.args.job.now) (data_of c.args.job.now) (spans_of c.args.job.now.columns.now.cuts) c.args.cluster c.range-span.result
    (sym (ap (λ (k : CutsView). slice_get (spans_of k) c.args.cluster) c.cuts.ensures.value) ∙ c.range-span.ensures) c.new-text.result c.cluster.new.text c.in-Err.stop c.in-Err.ensures.answer
