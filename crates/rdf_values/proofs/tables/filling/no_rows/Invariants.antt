use Rattle.lemmas.proofs.{take}
use Rattle.rdf_values.specs.{AreKept}
use Rattle.rdf_values.proofs.tables.filling.no_rows.Given as goal

abbrev pub invariant-loop-column : goal.invariant-loop-column
invariant-loop-column l = AreKept 0 (take l.column-index l.columns) l.cells.items
