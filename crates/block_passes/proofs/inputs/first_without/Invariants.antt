use Rattle.lemmas.proofs.{◌≡◌, ◌<◌, ℕ, None, get_or}
use Rattle.graph_numbers.specs.{Source}
use Rattle.block_passes.specs.{turn_job, source_fault}
use Rattle.block_passes.proofs.inputs.first_without.Given as goal

abbrev pub invariant-loop-i : goal.invariant-loop-i
invariant-loop-i g l = (m : ℕ) → m < l.i → source_fault (turn_job l.at) l.at.first l.of.under (Source.Element l.of.site l.of.nth l.of.tags) (get_or l.selection m 0) ≡ None
