use Rattle.lemmas.proofs.{◌≡◌, ◌≤◌, ◌*◌, length, take}
use Rattle.std.specs.List.{sum_by}
use Rattle.friend_join.proofs.elements.piece_elements.Given as goal

abbrev pub invariant-loop-i : goal.invariant-loop-i
invariant-loop-i l = record {
  so_far : l.elements ≡ sum_by length (take l.i l.vectors);
  few : l.elements ≤ 4096 * l.i;
}
