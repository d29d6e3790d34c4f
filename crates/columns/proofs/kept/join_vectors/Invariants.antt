use Rattle.lemmas.proofs.{◌≡◌, ◌++◌}
use Rattle.columns.specs.{joined}
use Rattle.columns.proofs.kept.join_vectors.Given as goal

abbrev pub invariant-loop-more : goal.invariant-loop-more
invariant-loop-more l = joined l.fn.pieces.items ≡ l.vectors ++ joined l.more-iterator.rest.items
