use Rattle.lemmas.proofs.{◌≡◌, ℕ, ◌<◌, ◌≤◌, length, get_or}
use Rattle.loop_pieces.specs.{both, nothing}
use Rattle.loop_pieces.proofs.flow.add_counts.Given as goal

abbrev pub invariant-loop-i : goal.invariant-loop-i
invariant-loop-i l = record {
  done : (k : ℕ) → k < l.i → get_or l.mine k nothing ≡ both (get_or l.fn.mine k nothing) (get_or l.theirs k nothing);
  left : (k : ℕ) → l.i ≤ k → k < length l.mine → get_or l.mine k nothing ≡ get_or l.fn.mine k nothing;
}
