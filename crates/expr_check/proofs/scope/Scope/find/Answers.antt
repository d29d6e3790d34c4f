use Rattle.lemmas.proofs.{None, Some, ap, ◌∙◌}
use Rattle.expr_check.proofs.Typed.{found_by_name, lacks_column}
use Rattle.expr_check.proofs.scope.Scope.find.Goals as goal

pub returns-in-None : goal.returns-in-None
returns-in-None c = record { found = found_by_name c.args.self.now c.args.name.now None c.in-None.ensures; absent = lacks_column c.args.self.now c.args.name.now (found_by_name c.args.self.now c.args.name.now None c.in-None.ensures) }

pub returns-in-Some : goal.returns-in-Some
returns-in-Some c = record { found = found_by_name c.args.self.now c.args.name.now (Some _) (ap Some c.column.view_is ∙ c.in-Some.ensures); absent = tt }
