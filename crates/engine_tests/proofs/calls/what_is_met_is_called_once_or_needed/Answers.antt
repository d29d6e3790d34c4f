use Rattle.lemmas.proofs.{refl}
use Rattle.entry_fns.proofs.Meanings.{boxed_answers}
use Rattle.engine_tests.proofs.calls.what_is_met_is_called_once_or_needed.OwnLists.{own-1, at-1-1, at-1-2}
use Rattle.engine_tests.proofs.calls.what_is_met_is_called_once_or_needed.Goals as goal

pub new-requires-4-clause-can : goal.new-requires-4-clause-can
new-requires-4-clause-can g c = λ args e. boxed_answers own-1 at-1-1 _ _ _ c.into_dyn_box.ensures.1 _ _ refl

pub new-requires-6-clause-can : goal.new-requires-6-clause-can
new-requires-6-clause-can g c = λ args e. boxed_answers own-1 at-1-2 _ _ _ c.into_dyn_box-in_ok-new-2.ensures.1 _ _ refl
