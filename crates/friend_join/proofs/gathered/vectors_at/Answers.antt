use Rattle.lemmas.proofs.{◌<◌, ℕ, Option, length, subst, sym, MatchOption}
use Rattle.std.specs.Prelude.{⊤}
use Rattle.friend_join.proofs.Counting.{match_below}
use Rattle.friend_join.proofs.gathered.vectors_at.Goals as goal

pub vector_for-requires : goal.vector_for-requires
vector_for-requires c = subst (λ (o : Option ℕ). MatchOption o ⊤ (λ e. e < length c.args.vectors.now)) (sym c.entry-item.is) (match_below _ c.args.matches.now c.loop-entry.entry-index _ c.requires c.loop-entry-test.true)
