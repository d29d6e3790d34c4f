use Rattle.lemmas.proofs.{◌-◌, ℕ, List}
use Rattle.rdf_values.specs.{HoldsTable, rows_kept}
use Rattle.table_csv.specs.{entries_of, Leaves}
use Rattle.table_csv.proofs.TableSteps.{Reading}
use Rattle.table_csv.proofs.entries.read_entries.Given as goal

abbrev pub invariant-loop-fields : goal.invariant-loop-fields
invariant-loop-fields l =
    ((whole : List (List (List ℕ))) → Leaves l.fn.reader whole
    → (left : List (List (List ℕ))) × Leaves l.reader left
    × Reading (entries_of (record { columns = l.fn.heading.columns; marked = l.fn.heading.marked }) whole) l.marked (record { columns = l.fn.heading.columns; rows = rows_kept l.entry l.cells.items }) l.marks l.entry left)
    × HoldsTable l.fn.heading.columns l.cells.items l.entry

abbrev pub decreases-loop-fields : goal.decreases-loop-fields
decreases-loop-fields l = 1000001 - l.entry
