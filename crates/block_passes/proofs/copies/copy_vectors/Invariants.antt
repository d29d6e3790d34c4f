use Rattle.lemmas.proofs.{◌≡◌, ◌+◌, ◌<◌, ℕ, get_or, length}
use Rattle.loop_keys.specs.{site_in}
use Rattle.block_passes.specs.{GivesVector, turn_job}
use Rattle.block_passes.proofs.copies.copy_vectors.Given as goal

abbrev pub invariant-loop-i : goal.invariant-loop-i
invariant-loop-i g l = record {
  room : length l.vectors.spans.items ≡ l.at.count;
  come : (m : ℕ) → m < l.i → GivesVector l.vectors.elements.items l.vectors.spans.items (get_or l.selection m 0) (site_in {M = ⊥} (turn_job l.at) (l.at.first + get_or l.selection m 0) l.under l.site);
}
