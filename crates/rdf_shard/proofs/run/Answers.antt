use Rattle.std.proofs.Common.{refl}
use Rattle.entry_fns.proofs.Meanings.{boxed_answers}
use Rattle.rdf_shard.proofs.run.OwnLists.{own-1, at-1-1, at-1-2, at-1-3}
use Rattle.rdf_shard.proofs.run.Goals as goal

pub new-requires-4-clause-can : goal.new-requires-4-clause-can
new-requires-4-clause-can g c = λ args e. boxed_answers own-1 at-1-1 _ _ _ c.into_dyn_box.ensures.1 _ _ refl

pub new-requires-5-clause-can : goal.new-requires-5-clause-can
new-requires-5-clause-can g c = λ args e. boxed_answers own-1 at-1-2 _ _ _ c.into_dyn_box-2.ensures.1 _ _ refl

pub new-requires-6-clause-can : goal.new-requires-6-clause-can
new-requires-6-clause-can g c = λ args e. boxed_answers own-1 at-1-3 _ _ _ c.into_dyn_box-3.ensures.1 _ _ refl
