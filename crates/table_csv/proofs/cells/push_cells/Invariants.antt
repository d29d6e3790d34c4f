use Rattle.csv.specs.Records.{fields_of}
use Rattle.rdf_values.specs.{cells_from}
use Rattle.table_csv.proofs.RecordSteps.{Pushing}
use Rattle.table_csv.proofs.cells.push_cells.Given as goal

abbrev pub invariant-loop-i : goal.invariant-loop-i
invariant-loop-i l = Pushing (cells_from l.entry 0 l.columns (fields_of l.fields)) l.entry l.columns (fields_of l.fields) l.i l.initial.cells l.cells
