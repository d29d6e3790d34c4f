use Rattle.lemmas.proofs.{◌≡◌, ◌*◌, ◌≤◌, List, Some, slice_get, take, sum_by}
use Rattle.rdf_values.specs.{Value}
use Rattle.block_laws.specs.{elements_in}
use Rattle.block_passes.proofs.block_ends.entry_elements.Given as goal

abbrev pub invariant-loop-col : goal.invariant-loop-col
invariant-loop-col l = record {
  sum : (row : List Value) → slice_get l.columns.table.rows l.entry ≡ Some row → l.elements ≡ sum_by elements_in (take l.col row);
  few : l.elements ≤ 4096 * l.col;
}
