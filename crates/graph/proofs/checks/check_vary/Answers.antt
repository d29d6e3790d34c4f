use Rattle.lemmas.proofs.{[], ◌∷◌, ◌∙◌, ap, length}
use Rattle.rdf_values.specs.{check_node, check_tags, check_values, first_refusal, GraphCause, refuse_if, repeats, scope_at, scope_of}
use Rattle.graph.specs.{statements, targets_at}
use Rattle.graph.proofs.Walking.{stopped_before, decided_last, handed_on}
use Rattle.graph.proofs.checks.check_vary.Goals as goal

pub returns-in_err-stop_if-clause-decided : goal.returns-in_err-stop_if-clause-decided
returns-in_err-stop_if-clause-decided c =
    handed_on _ _ _ c.from_residual.ensures.1
    (stopped_before
    (check_node (statements c.args.before.now.lines.now) c.args.node.now c.args.change.now.parent.now ∷ refuse_if (repeats c.args.change.now.columns.now) GraphCause.NameTaken
    ∷ targets_at c.args.before.now.names.now (scope_of c.args.before.now.header.now) (statements c.args.before.now.lines.now) c.args.change.now.parent.now c.args.change.now.columns.now ∷ check_tags (statements c.args.before.now.lines.now) c.args.change.now.tags.now c.args.change.now.name.now ∷ [])
    (check_values c.args.before.now.names.now (scope_at c.args.before.now.names.now (scope_of c.args.before.now.header.now) (statements c.args.before.now.lines.now) c.args.change.now.parent.now) (length c.args.change.now.tags.now) c.args.change.now.columns.now c.args.change.now.values.now ∷ []) c.first_of.result _
    (c.first_of.ensures ∙ λ i. first_refusal (c.check_node.ensures i ∷ (c.refuse_if.ensures ∙ ap (λ b. refuse_if b GraphCause.NameTaken) c.repeats.ensures) i ∷ c.check_targets.ensures i ∷ c.check_tags.ensures (statements c.args.before.now.lines.now) c.args.before.now.are.variations i ∷ [])) c.in_err-stop_if.ensures)

pub returns-clause-decided : goal.returns-clause-decided
returns-clause-decided c =
    decided_last
    (check_node (statements c.args.before.now.lines.now) c.args.node.now c.args.change.now.parent.now ∷ refuse_if (repeats c.args.change.now.columns.now) GraphCause.NameTaken
    ∷ targets_at c.args.before.now.names.now (scope_of c.args.before.now.header.now) (statements c.args.before.now.lines.now) c.args.change.now.parent.now c.args.change.now.columns.now ∷ check_tags (statements c.args.before.now.lines.now) c.args.change.now.tags.now c.args.change.now.name.now ∷ [])
    (check_values c.args.before.now.names.now (scope_at c.args.before.now.names.now (scope_of c.args.before.now.header.now) (statements c.args.before.now.lines.now) c.args.change.now.parent.now) (length c.args.change.now.tags.now) c.args.change.now.columns.now c.args.change.now.values.now) c.first_of.result
    (c.first_of.ensures ∙ λ i. first_refusal (c.check_node.ensures i ∷ (c.refuse_if.ensures ∙ ap (λ b. refuse_if b GraphCause.NameTaken) c.repeats.ensures) i ∷ c.check_targets.ensures i ∷ c.check_tags.ensures (statements c.args.before.now.lines.now) c.args.before.now.are.variations i ∷ [])) c.in_ok-stop_if.ensures
    c.check_values.result c.check_values.ensures.decided
