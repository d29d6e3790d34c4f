use Rattle.lemmas.proofs.{◌≡◌, ◌++◌, map, take}
use Rattle.friend_join.specs.{entry_of}
use Rattle.friend_join.proofs.matches.match_numbers.Given as goal

abbrev pub invariant-loop-place : goal.invariant-loop-place
invariant-loop-place l = l.matches.items ≡ l.fn.matches.items ++ map (entry_of l.keys.keys) (take l.place l.numbers)
