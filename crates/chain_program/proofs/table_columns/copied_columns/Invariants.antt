use Rattle.lemmas.proofs.{◌≡◌, ◌++◌, true, drop}
use Rattle.std.specs.List.{list_all}
use Rattle.rdf_values.specs.{Column, is_name}
use Rattle.chain_program.proofs.table_columns.copied_columns.Given as goal

abbrev pub invariant-loop-column : goal.invariant-loop-column
invariant-loop-column l = record {
  same : l.all ++ drop l.column-index l.columns ≡ l.columns;
  named : list_all (λ (c : Column). is_name c.name) l.all ≡ true;
}
