use Rattle.lemmas.proofs.{◌≡◌, ◌<◌, ◌≤◌, ℕ, false}
use Rattle.expr_lanes.specs.{is_marked}
use Rattle.block_cache.proofs.block_marks.clear.Given as goal

abbrev pub invariant-loop-i : goal.invariant-loop-i
invariant-loop-i l = record {
  first : (p : ℕ) → p < l.i → is_marked l.written p ≡ false;
  rest : (p : ℕ) → l.i ≤ p → is_marked l.written p ≡ is_marked l.initial.written p;
}
