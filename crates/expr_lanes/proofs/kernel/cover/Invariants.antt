use Rattle.lemmas.proofs.{◌≡◌, ◌<◌, ◌≤◌, ℕ}
use Rattle.rdf_model.specs.{Gives}
use Rattle.expr_lanes.specs.{at_place}
use Rattle.expr_lanes.proofs.kernel.cover.Given as goal

abbrev pub invariant-loop-i : goal.invariant-loop-i
invariant-loop-i g l = record {
  values : (p : ℕ) → p < l.i → g.K.Kernel.gives l.kernel p ≡ Gives (at_place l.lane p);
  others : (p : ℕ) → l.count ≤ p → at_place l.lane p ≡ at_place l.initial.lane p;
}
