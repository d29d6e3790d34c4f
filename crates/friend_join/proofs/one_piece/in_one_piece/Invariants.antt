use Rattle.lemmas.proofs.{◌≡◌, ◌++◌, map}
use Rattle.columns.specs.{whole}
use Rattle.friend_join.proofs.one_piece.in_one_piece.Given as goal

abbrev pub invariant-loop-pieces : goal.invariant-loop-pieces
invariant-loop-pieces l = (l.cells.items ≡ map whole l.yielded) × (l.fn.columns.items ≡ l.yielded ++ l.pieces-iterator.rest.items)
