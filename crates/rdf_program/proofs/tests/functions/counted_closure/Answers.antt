use Rattle.lemmas.proofs.{refl}
use Rattle.entry_fns.proofs.Meanings.{boxed_answers}
use Rattle.rdf_program.proofs.tests.functions.counted_closure.OwnLists.{own-1, at-1-1}
use Rattle.rdf_program.proofs.tests.functions.counted_closure.Goals as goal

pub new-requires-4-clause-can : goal.new-requires-4-clause-can
new-requires-4-clause-can g c = λ args e. boxed_answers own-1 at-1-1 _ _ _ c.into_dyn_box.ensures.1 _ _ refl
