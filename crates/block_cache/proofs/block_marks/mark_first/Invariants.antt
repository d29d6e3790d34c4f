use Rattle.lemmas.proofs.{◌≡◌}
use Rattle.block_cache.specs.{marked_to}
use Rattle.block_cache.proofs.block_marks.mark_first.Given as goal

abbrev pub invariant-loop-i : goal.invariant-loop-i
invariant-loop-i l = l.marks ≡ marked_to l.i l.initial.marks
