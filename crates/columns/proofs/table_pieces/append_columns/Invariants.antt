use Rattle.lemmas.proofs.{◌≡◌, drop, length, map, take}
use Rattle.columns.specs.{columns_joined, whole}
use Rattle.columns.proofs.table_pieces.append_columns.Given as goal

abbrev pub invariant-loop-col : goal.invariant-loop-col
invariant-loop-col l =
    (map whole l.columns.items ≡ columns_joined (map whole l.fn.columns.items) (take l.col-iterator.count (map whole l.fn.more.items)))
    × (drop l.col-iterator.count l.fn.more.items ≡ l.col-iterator.iter.rest.items)
    × (length l.columns.items ≡ length l.fn.columns.items)
