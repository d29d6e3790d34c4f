use Rattle.lemmas.proofs.{suc}
use Rattle.loop_keys.specs.{AreEach, IsRow, row_under}
use Rattle.loop_keys.proofs.rows.rows_of.Given as goal

abbrev pub invariant-loop-v : goal.invariant-loop-v
invariant-loop-v l = AreEach (λ i r. IsRow l.graph (row_under i) r) (suc l.v) l.rows
