use Rattle.lemmas.proofs.{◌≡◌, take}
use Rattle.std.specs.List.{range_with_len}
use Rattle.expr_lanes.proofs.selection.number_places.Given as goal

abbrev pub invariant-loop-i : goal.invariant-loop-i
invariant-loop-i l = take l.i l.places ≡ range_with_len 0 l.i
