use Rattle.lemmas.proofs.{◌≡◌, ◌≤◌, ◌*◌, take}
use Rattle.std.specs.List.{sum_by}
use Rattle.friend_join.specs.{length_for}
use Rattle.friend_join.proofs.elements.matched_vectors.Given as goal

abbrev pub invariant-loop-entry : goal.invariant-loop-entry
invariant-loop-entry l = record {
  so_far : l.elements ≡ sum_by (length_for l.vectors) (take l.entry-index l.matches);
  few : l.elements ≤ 4096 * l.entry-index;
}
