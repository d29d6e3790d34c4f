use Rattle.rdf_values.proofs.ShortLists.{AreFnNames-push}
use Rattle.rdf_values.proofs.expressions.fn_names.FnNames.push.Goals as goal
use Rattle.rdf_values.proofs.expressions.fn_names.FnNames.push.Goals.{in-Ok, in-Err}

pub invariant_of-self : goal.invariant_of-self
invariant_of-self c =
    elim c.match-push.branch [
      | in-Ok w ↦ rw w.in-Ok.ensures.items (AreFnNames-push _ _ c.self.invariant (rw c.self.view_is c.requires.room) c.requires.arity (rw c.self.view_is c.requires.new) c.requires.not_built_in)
      | in-Err w ↦ rw w.in-Err.ensures.items c.self.invariant
    ]
