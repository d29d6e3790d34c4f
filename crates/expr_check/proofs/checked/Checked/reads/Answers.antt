use Rattle.lemmas.proofs.{◌∙◌, ap, refl}
use Rattle.rdf_values.specs.{columns_in}
use Rattle.expr_check.specs.{CheckedExpr, distinct}
use Rattle.expr_check.proofs.WellTyped.{reads_are}
use Rattle.expr_check.proofs.checked.Checked.reads.Goals as goal

pub returns-clause-columns : goal.returns-clause-columns
returns-clause-columns c = c.as_slice.ensures.value ∙ reads_are c.args.self.now _ _ _ _ c.self.invariant.0 c.self.view_is

pub returns-clause-order : goal.returns-clause-order
returns-clause-order c =
    c.as_slice.ensures.value ∙ reads_are _ c.self.inside.expr _ _ c.self.inside.kind c.self.invariant.0 refl ∙ c.self.invariant.1.1.columns ∙ ap (λ (e : CheckedExpr). distinct (columns_in e.tree)) c.self.view_is
