use Rattle.lemmas.proofs.{◌≡◌, ◌∙◌, ap, not}
use Rattle.expr_check.specs.{CheckedExpr, is_plain}
use Rattle.expr_check.proofs.Typed.{test_of_parts, plain_by_kinds}
use Rattle.expr_check.proofs.checked.Checked.plain.Goals as goal

value : (c : goal.After-has_vector) → not c.has_vector.result ≡ is_plain c.args.self.now.kinds c.args.self.now.tree
value c =
    rw (c.has_vector.ensures, c.as_slice.ensures.value)
    (plain_by_kinds c.self.invariant.1.0 c.self.inside.expr _ _ c.self.inside.kind c.self.invariant.0 c.self.invariant.1.1
    ∙ ap (λ (e : CheckedExpr). is_plain e.kinds e.tree) c.self.view_is)

pub returns : goal.returns
returns c = record {
  value = value c;
  parts = λ names typed. test_of_parts c.args.self.now.kinds names _ c.args.self.now.tree c.args.self.now.kind (value c) typed.typed;
}
