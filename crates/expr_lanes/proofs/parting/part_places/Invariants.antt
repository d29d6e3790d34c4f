use Rattle.lemmas.proofs.{◌≡◌, ◌+◌, not, take}
use Rattle.std.specs.List.{filter}
use Rattle.rdf_model.specs.{is_zero}
use Rattle.expr_lanes.specs.{at_place}
use Rattle.expr_lanes.proofs.parting.part_places.Given as goal

abbrev pub invariant-loop-i : goal.invariant-loop-i
invariant-loop-i l = record {
  counted : l.zero_count + l.other_count ≡ l.i;
  at_zero : take l.zero_count l.zeros ≡ filter (λ p. is_zero (at_place l.lane p)) (take l.i l.places);
  elsewhere : take l.other_count l.others ≡ filter (λ p. not (is_zero (at_place l.lane p))) (take l.i l.places);
}
