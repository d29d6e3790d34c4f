use Rattle.lemmas.proofs.{◌≡◌}
use Rattle.rdf_values.proofs.KeptLemmas.{partly}
use Rattle.rdf_values.proofs.tables.filling.push_row.Given as goal

abbrev pub invariant-loop-col : goal.invariant-loop-col
invariant-loop-col l = l.cells ≡ partly l.col l.initial.cells l.row
