use Rattle.lemmas.proofs.{◌≡◌, ◌++◌, map, take}
use Rattle.slot_words.specs.{cluster_in, piece_in}
use Rattle.slot_words.proofs.between.choose_between.Given as goal

abbrev pub invariant-loop-noted : goal.invariant-loop-noted
invariant-loop-noted g l = record {
  clusters : l.clusters.items ≡ l.fn.clusters.items ++ map cluster_in (take l.noted-index l.noted-items);
  pieces : l.pieces.items ≡ l.fn.pieces.items ++ map piece_in (take l.noted-index l.noted-items);
}
