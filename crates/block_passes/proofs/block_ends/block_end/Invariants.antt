use Rattle.lemmas.proofs.{◌≤◌}
use Rattle.block_passes.proofs.FirstLengths.{IsAtEnd}
use Rattle.block_passes.proofs.block_ends.block_end.Given as goal

abbrev pub invariant-loop-end : goal.invariant-loop-end
invariant-loop-end l = record {
  at : IsAtEnd l.columns.table.rows l.keys l.size 4194304 l.fn.entries.hi l.fn.entries.lo l.end l.elements;
  few : l.elements ≤ 288230376151711744;
}
