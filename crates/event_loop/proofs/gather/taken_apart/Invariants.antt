use Rattle.lemmas.proofs.{◌≡◌, ◌++◌, map, vec_len}
use Rattle.event_loop.specs.{pieces_in, seat_in, shares_in}
use Rattle.event_loop.proofs.gather.taken_apart.Given as goal

abbrev pub invariant-loop-left : goal.invariant-loop-left
invariant-loop-left l = record {
  seats : l.seats ++ map seat_in l.left.items ≡ map seat_in l.fn.finished.items;
  pieces : l.pieces ++ pieces_in l.left.items ≡ pieces_in l.fn.finished.items;
  shares : l.shares ++ shares_in l.left.items ≡ shares_in l.fn.finished.items;
}

abbrev pub decreases-loop-left : goal.decreases-loop-left
decreases-loop-left l = vec_len l.left
