use Rattle.lemmas.proofs.{refl}
use Rattle.entry_fns.proofs.Meanings.{boxed_answers}
use Rattle.rdf_program.proofs.tests.side_by_side.two_slots_evaluate_at_once.OwnLists.{own-1, at-1-1}
use Rattle.rdf_program.proofs.tests.side_by_side.two_slots_evaluate_at_once.Goals as goal

pub new-stored-requires-clause-can : goal.new-stored-requires-clause-can
new-stored-requires-clause-can g c = λ args e. boxed_answers own-1 at-1-1 _ _ _ c.into_dyn_box.ensures.1 _ _ refl
