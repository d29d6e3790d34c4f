use Rattle.lemmas.proofs.{◌≡◌, map, take}
use Rattle.friend_join.specs.{number_for}
use Rattle.friend_join.proofs.gathered.ints_at.Given as goal

abbrev pub invariant-loop-entry : goal.invariant-loop-entry
invariant-loop-entry l = l.gathered ≡ map (number_for l.missing l.numbers) (take l.entry-index l.matches)
