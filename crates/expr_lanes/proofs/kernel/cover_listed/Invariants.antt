use Rattle.lemmas.proofs.{◌≡◌, ℕ, false, take}
use Rattle.rdf_model.specs.{Gives}
use Rattle.expr_lanes.specs.{at_place, EachPlace, is_in}
use Rattle.expr_lanes.proofs.kernel.cover_listed.Given as goal

abbrev pub invariant-loop-place : goal.invariant-loop-place
invariant-loop-place g l = record {
  values : EachPlace (take l.place-index l.places) (λ p. g.K.Kernel.gives l.kernel p ≡ Gives (at_place l.lane p));
  others : (p : ℕ) → is_in p l.places ≡ false → at_place l.lane p ≡ at_place l.initial.lane p;
}
