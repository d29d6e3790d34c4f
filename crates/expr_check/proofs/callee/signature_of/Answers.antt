use Rattle.expr_check.proofs.WellTyped.{given_shape-take}
use Rattle.expr_check.proofs.callee.signature_of.Goals as goal

pub returns-in-Given : goal.returns-in-Given
returns-in-Given c = rw c.in-Given.is (given_shape-take c.args.names.now _ _ c.arity.ensures.few c.arity.ensures.value)
