use Rattle.lemmas.proofs.{[], ◌∷◌, ◌∙◌, subst, sym}
use Rattle.rdf_values.specs.{check_columns, first_refusal, permitted_kinds}
use Rattle.graph.specs.{IsAmount, scope_before, statements}
use Rattle.graph.proofs.Walking.{handed_on, stops_for}
use Rattle.graph.proofs.Finished.{action_decided, amounts_both}
use Rattle.graph.proofs.checks.check_action.Goals as goal

pub returns-in_err-stop_if-clause-decided : goal.returns-in_err-stop_if-clause-decided
returns-in_err-stop_if-clause-decided c =
    handed_on _ _ _ c.from_residual-in_err-stop_if.ensures.1
    (stops_for _ _ _
    (action_decided c.args.before.now.header.now c.args.before.now.names.now (statements c.args.before.now.lines.now) c.args.before.now.are.versions.accepted c.args.before.now.tables.now.results.items c.args.before.now.are.results c.args.name.now c.args.parent.now c.args.action.now c.first_of.result c.too_many.result
    (c.first_of.ensures ∙ λ i. first_refusal (c.check_node.ensures i
    ∷ (c.in_ok-wrong.ensures ∙ λ j. check_columns (scope_before c.args.before.now c.args.parent.now) (permitted_kinds c.args.action.now) (c.new-kinds.ensures.items j) ((c.as_slice.ensures.value ∙ c.in_ok-columns.ensures) j)) i
    ∷ c.check_edges.ensures i ∷ c.one_result_more.ensures.action c.args.name.now c.args.parent.now c.args.action.now i ∷ c.too_many.result ∷ []))
    c.in_ok-row.row c.in_ok-row.ensures c.in_ok-both.field-0
    (amounts_both (statements c.args.before.now.lines.now) c.args.before.now.tables.now.results.items (c.in_ok-row.row ∷ []) c.in_ok-others.others c.in_ok-own.own c.in_ok-both.field-0
    (subst (λ rs. IsAmount (statements c.args.before.now.lines.now) rs c.in_ok-others.others) c.as_slice-rows.ensures.value c.in_ok-others.ensures) c.in_ok-own.ensures c.in_ok-both.ensures) c.too_many.ensures) c.in_err-stop_if.ensures)

pub returns-clause-decided : goal.returns-clause-decided
returns-clause-decided c =
    sym
    (action_decided c.args.before.now.header.now c.args.before.now.names.now (statements c.args.before.now.lines.now) c.args.before.now.are.versions.accepted c.args.before.now.tables.now.results.items c.args.before.now.are.results c.args.name.now c.args.parent.now c.args.action.now c.first_of.result c.too_many.result
    (c.first_of.ensures ∙ λ i. first_refusal (c.check_node.ensures i
    ∷ (c.in_ok-wrong.ensures ∙ λ j. check_columns (scope_before c.args.before.now c.args.parent.now) (permitted_kinds c.args.action.now) (c.new-kinds.ensures.items j) ((c.as_slice.ensures.value ∙ c.in_ok-columns.ensures) j)) i
    ∷ c.check_edges.ensures i ∷ c.one_result_more.ensures.action c.args.name.now c.args.parent.now c.args.action.now i ∷ c.too_many.result ∷ []))
    c.in_ok-row.row c.in_ok-row.ensures c.in_ok-both.field-0
    (amounts_both (statements c.args.before.now.lines.now) c.args.before.now.tables.now.results.items (c.in_ok-row.row ∷ []) c.in_ok-others.others c.in_ok-own.own c.in_ok-both.field-0
    (subst (λ rs. IsAmount (statements c.args.before.now.lines.now) rs c.in_ok-others.others) c.as_slice-rows.ensures.value c.in_ok-others.ensures) c.in_ok-own.ensures c.in_ok-both.ensures) c.too_many.ensures) ∙ c.in_ok-stop_if.ensures
