use Rattle.std.proofs.lemmas.Result.{IfOk-weaker}
use Rattle.table_csv.specs.{marked_in}
use Rattle.rdf_program.proofs.Answering.{over_refused}
use Rattle.rdf_program.proofs.over_table.answer_script.Goals as goal

pub returns : goal.returns
returns g c =
    IfOk-weaker c.refused.result _ _
    (λ a h.
    over_refused _ _ _ c.args.script _ _ (marked_in c.args.columns) _ c.in-Err-At.line _ c.in-Err-At.cause _ a c.columns-2.ensures.value c.names-names.ensures
    c.in-Err-At.field-0-is c.in-Err-At.ensures (cc c.in-Err-At.line-is) (cc c.in-Err-At.cause-is) h) c.refused.ensures
