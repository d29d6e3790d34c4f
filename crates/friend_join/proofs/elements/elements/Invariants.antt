use Rattle.lemmas.proofs.{◌≡◌, ◌≤◌, ◌*◌, map, take}
use Rattle.std.specs.List.{sum_by}
use Rattle.columns.specs.{whole}
use Rattle.friend_join.specs.{column_elements}
use Rattle.friend_join.proofs.elements.elements.Given as goal

abbrev pub invariant-loop-column : goal.invariant-loop-column
invariant-loop-column l = record {
  so_far : l.elements ≡ sum_by column_elements (take l.column-index (map whole l.columns));
  few : l.elements ≤ 4096000000 * l.column-index;
}
