use Rattle.lemmas.proofs.{◌≡◌, take}
use Rattle.graph.specs.{cell_rows}
use Rattle.graph.proofs.tables.Tables.start.Given as goal

abbrev pub invariant-loop-col : goal.invariant-loop-col
invariant-loop-col l = l.versions.items ≡ cell_rows 0 (take l.col l.header)
