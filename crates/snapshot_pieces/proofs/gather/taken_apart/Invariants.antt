use Rattle.lemmas.proofs.{◌≡◌, ◌++◌, map, vec_len, flat_map}
use Rattle.snapshot_pieces.specs.{pieces_in, seat_in}
use Rattle.snapshot_pieces.proofs.gather.taken_apart.Given as goal

abbrev pub invariant-loop-left : goal.invariant-loop-left
invariant-loop-left l = record {
  seats : l.seats ++ map seat_in l.left.items ≡ map seat_in l.fn.finished.items;
  pieces : l.pieces ++ flat_map pieces_in l.left.items ≡ flat_map pieces_in l.fn.finished.items;
}

abbrev pub decreases-loop-left : goal.decreases-loop-left
decreases-loop-left l = vec_len l.left
