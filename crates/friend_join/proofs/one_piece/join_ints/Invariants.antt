use Rattle.lemmas.proofs.{◌≡◌, ◌++◌}
use Rattle.columns.specs.{joined}
use Rattle.friend_join.proofs.one_piece.join_ints.Given as goal

abbrev pub invariant-loop-more : goal.invariant-loop-more
invariant-loop-more l = joined l.fn.pieces.items ≡ l.numbers ++ joined l.more-iterator.rest.items
