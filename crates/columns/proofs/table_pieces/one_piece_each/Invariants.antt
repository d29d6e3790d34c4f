use Rattle.lemmas.proofs.{◌≡◌, ◌++◌, map}
use Rattle.columns.specs.{whole}
use Rattle.columns.proofs.table_pieces.one_piece_each.Given as goal

abbrev pub invariant-loop-column : goal.invariant-loop-column
invariant-loop-column l = (map whole l.pieces.items ≡ l.yielded) × (l.fn.cells.items ≡ l.yielded ++ l.column-iterator.rest.items)
