use Rattle.lemmas.proofs.{sym, subst}
use Rattle.script_read.specs.{ActionName, arguments_wants, IsStuck, left_of, MethodName}
use Rattle.script_read.proofs.walk.Walk.action_arguments.Goals as goal

pub returns-in-Histo2D-clause-stuck : goal.returns-in-Histo2D-clause-stuck
returns-in-Histo2D-clause-stuck c h =
    subst (λ (n : ActionName). IsStuck (arguments_wants (MethodName.Action n)) (left_of c.args.self.now) (left_of c.histo2d.new.self)) (sym c.in-Histo2D.is) (c.histo2d.ensures.stuck h)
