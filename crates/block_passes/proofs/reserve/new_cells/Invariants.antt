use Rattle.lemmas.proofs.{◌≡◌, length}
use Rattle.block_passes.specs.{HaveCells}
use Rattle.block_passes.proofs.reserve.new_cells.Given as goal

abbrev pub invariant-loop : goal.invariant-loop
invariant-loop l = record { many : length l.cells.items ≡ l.counter; room : HaveCells l.size l.cells.items }
