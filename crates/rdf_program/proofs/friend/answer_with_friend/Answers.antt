use Rattle.lemmas.proofs.{◌<◌, ℕ, All, subst, sym}
use Rattle.friend_join.proofs.Stays.{entries_stay}
use Rattle.rdf_program.proofs.friend.answer_with_friend.Goals as goal

pub into_columns-requires-clause-within : goal.into_columns-requires-clause-within
into_columns-requires-clause-within g c κs within = subst (λ (n : ℕ). All (λ e. e < n) c.args.marked.marks) (sym (entries_stay _ _ _ _ _ c.in-Ok.ensures)) c.requires.within
