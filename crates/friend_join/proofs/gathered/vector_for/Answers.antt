use Rattle.lemmas.proofs.{◌∙◌, [], sym}
use Rattle.friend_join.proofs.Removing.{got}
use Rattle.friend_join.proofs.gathered.vector_for.Goals as goal

pub returns-in-Some : goal.returns-in-Some
returns-in-Some c = rw (sym c.get.ensures ∙ c.in-Some.is) (sym (got c.args.vectors.now c.in-Some.entry c.at.result.now [] c.at.ensures).1)
