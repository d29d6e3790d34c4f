use Rattle.lemmas.proofs.{◌≡◌, ◌≤◌, [], drop, length}
use Rattle.csv.specs.Records.{fields_of}
use Rattle.rdf_values.specs.{header_from}
use Rattle.table_csv.proofs.TableSteps.{header_onto}
use Rattle.table_csv.proofs.header.read_header.Given as goal

abbrev pub invariant-loop-i : goal.invariant-loop-i
invariant-loop-i l =
    (header_from 0 [] (fields_of l.header) ≡ header_onto l.columns (header_from l.i l.columns (drop l.i (fields_of l.header)))) × (length l.columns ≡ l.i) × (l.i ≤ 64)
