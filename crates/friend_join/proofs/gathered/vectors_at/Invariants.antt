use Rattle.lemmas.proofs.{◌≡◌, map, take}
use Rattle.friend_join.specs.{vector_for}
use Rattle.friend_join.proofs.gathered.vectors_at.Given as goal

abbrev pub invariant-loop-entry : goal.invariant-loop-entry
invariant-loop-entry l = l.gathered ≡ map (vector_for l.vectors) (take l.entry-index l.matches)
