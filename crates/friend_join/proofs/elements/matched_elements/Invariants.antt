use Rattle.lemmas.proofs.{◌≡◌, ◌≤◌, ◌*◌, take}
use Rattle.std.specs.List.{sum_by}
use Rattle.friend_join.specs.{matched_elements}
use Rattle.friend_join.proofs.elements.matched_elements.Given as goal

abbrev pub invariant-loop-cells : goal.invariant-loop-cells
invariant-loop-cells l = record {
  so_far : l.elements ≡ sum_by (matched_elements l.matches) (take l.cells-index l.columns);
  few : l.elements ≤ 4096000000 * l.cells-index;
}
