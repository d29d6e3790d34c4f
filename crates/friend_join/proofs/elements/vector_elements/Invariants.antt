use Rattle.lemmas.proofs.{◌≡◌, ◌≤◌, ◌*◌, length, take}
use Rattle.std.specs.List.{sum_by}
use Rattle.columns.specs.{joined}
use Rattle.friend_join.proofs.elements.vector_elements.Given as goal

abbrev pub invariant-loop-vectors : goal.invariant-loop-vectors
invariant-loop-vectors l = record {
  so_far : l.elements ≡ sum_by length (joined (take l.vectors-index l.pieces));
  few : l.elements ≤ 4096 * length (joined (take l.vectors-index l.pieces));
}
