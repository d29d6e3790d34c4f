use Rattle.lemmas.proofs.{[], ◌∷◌, ◌∙◌, ap, subst, sym}
use Rattle.std.proofs.lemmas.List.{append-nil}
use Rattle.rdf_values.specs.{bookings, first_refusal, GraphCause, refuse_if, refuse_unless, variations}
use Rattle.rdf_values.specs.declared.scripts.statement.Statement.TheVariants.{VariationsFor}
use Rattle.graph.specs.{statements}
use Rattle.graph.proofs.Finished.{AllPassed, passes_checked, rows_passed}
use Rattle.graph.proofs.checks.check_variations_for.Goals as goal

pub returns : goal.returns
returns c = c.first_of.ensures ∙ λ i. first_refusal ((c.refuse_unless.ensures ∙ ap (λ b. refuse_unless b GraphCause.UnknownName) c.is_result.ensures) i ∷ (c.refuse_if.ensures ∙ ap (λ b. refuse_if b GraphCause.WrongKind) c.is_report.ensures) i ∷ (c.refuse_if-2.ensures ∙ ap (λ b. refuse_if b GraphCause.Late) c.is_filled.ensures) i ∷
    passes_checked (VariationsFor c.args.name.now ∷ statements c.args.before.now.lines.now) (bookings (statements c.args.before.now.lines.now)) c.as_slice-rows.result.now
    (subst (AllPassed (VariationsFor c.args.name.now ∷ statements c.args.before.now.lines.now) (bookings (statements c.args.before.now.lines.now))) (sym c.as_slice-rows.ensures.value)
    (rows_passed c.args.before.now.header.now c.args.before.now.names.now (VariationsFor c.args.name.now ∷ statements c.args.before.now.lines.now) (statements c.args.before.now.lines.now) (append-nil (variations (statements c.args.before.now.lines.now))) c.args.before.now.are.versions.accepted
    c.args.before.now.tables.now.results.items c.args.before.now.are.results)) c.in_ok-amounts.amounts c.in_ok-amounts.ensures c.too_many.result c.too_many.ensures i ∷ [])
