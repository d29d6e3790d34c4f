use Rattle.lemmas.proofs.{◌≡◌, ◌++◌}
use Rattle.columns.specs.{joined}
use Rattle.friend_join.proofs.one_piece.join_vectors.Given as goal

abbrev pub invariant-loop-more : goal.invariant-loop-more
invariant-loop-more l = joined l.fn.pieces.items ≡ l.vectors ++ joined l.more-iterator.rest.items
