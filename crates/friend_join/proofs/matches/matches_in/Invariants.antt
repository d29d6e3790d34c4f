use Rattle.lemmas.proofs.{◌≡◌, map, take}
use Rattle.columns.specs.{joined}
use Rattle.friend_join.specs.{entry_of}
use Rattle.friend_join.proofs.matches.matches_in.Given as goal

abbrev pub invariant-loop-piece : goal.invariant-loop-piece
invariant-loop-piece l = l.matches.items ≡ map (entry_of l.keys.keys) (joined (take l.piece-index l.pieces))
