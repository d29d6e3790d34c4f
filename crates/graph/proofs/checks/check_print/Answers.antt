use Rattle.lemmas.proofs.{[], ◌∷◌, ◌++◌, ◌∙◌, ap, arith, refl, subst, sym, AllZip-long}
use Rattle.rdf_values.specs.{bookings, first_refusal, GraphCause, printed_results, refuse_unless}
use Rattle.rdf_values.specs.declared.scripts.statement.Statement.TheVariants.{Print}
use Rattle.graph.specs.{printed_rows, rows_named, statements}
use Rattle.graph.proofs.Finished.{AllPassed, amounts_both, passes_checked, printed_with, rows_passed}
use Rattle.graph.proofs.checks.check_print.Goals as goal

pub amounts_printed-requires : goal.amounts_printed-requires
amounts_printed-requires = grind (arith, AllZip-long)

pub returns : goal.returns
returns c = c.first_of.ensures ∙ λ i. first_refusal ((c.refuse_unless.ensures ∙ ap (λ b. refuse_unless b GraphCause.UnknownName) c.is_result.ensures) i ∷
    passes_checked (statements c.args.before.now.lines.now) (printed_results (Print c.args.name.now ∷ statements c.args.before.now.lines.now)) (rows_named c.args.name.now c.as_slice-rows.result.now ++ printed_rows (statements c.args.before.now.lines.now) c.as_slice-rows.result.now)
    (printed_with (statements c.args.before.now.lines.now) (statements c.args.before.now.lines.now) c.args.name.now c.as_slice-rows.result.now
    (subst (AllPassed (statements c.args.before.now.lines.now) (bookings (statements c.args.before.now.lines.now))) (sym c.as_slice-rows.ensures.value)
    (rows_passed c.args.before.now.header.now c.args.before.now.names.now (statements c.args.before.now.lines.now) (statements c.args.before.now.lines.now) refl c.args.before.now.are.versions.accepted c.args.before.now.tables.now.results.items c.args.before.now.are.results)))
    c.in_ok-amounts.amounts (amounts_both (statements c.args.before.now.lines.now) _ _ _ _ c.in_ok-amounts.amounts c.in_ok-own.ensures c.in_ok-others.ensures c.in_ok-amounts.ensures) c.too_many.result c.too_many.ensures i ∷ [])
