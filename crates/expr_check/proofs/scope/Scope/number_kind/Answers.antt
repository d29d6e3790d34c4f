use Rattle.lemmas.proofs.{None, Some, ap, ◌∙◌}
use Rattle.expr_check.proofs.Typed.{found_by_number}
use Rattle.expr_check.proofs.scope.Scope.number_kind.Goals as goal

pub returns-in-None : goal.returns-in-None
returns-in-None c = found_by_number c.args.self.now c.args.number None c.in-None.ensures

pub returns-in-Some : goal.returns-in-Some
returns-in-Some c = found_by_number c.args.self.now c.args.number (Some _) (ap Some c.column.view_is ∙ c.in-Some.ensures)
