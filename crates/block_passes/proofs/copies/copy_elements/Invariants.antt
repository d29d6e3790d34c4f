use Rattle.lemmas.proofs.{◌≡◌, ◌+◌, ◌<◌, ℕ, get_or, length}
use Rattle.graph_numbers.specs.{Source, source_value}
use Rattle.loop_keys.specs.{row_of, site_in}
use Rattle.block_passes.specs.{GivesNumber, turn_job}
use Rattle.block_passes.proofs.copies.copy_elements.Given as goal

abbrev pub invariant-loop-i : goal.invariant-loop-i
invariant-loop-i g l = record {
  room : length l.numbers.items ≡ l.at.count;
  come : (m : ℕ) → m < l.i → GivesNumber l.numbers.items (get_or l.selection m 0) (source_value {M = ⊥} (row_of (turn_job l.at) (l.at.first + get_or l.selection m 0)) (site_in (turn_job l.at) (l.at.first + get_or l.selection m 0) l.of.under) (Source.Element l.of.site l.of.nth l.of.tags));
}
