use Rattle.lemmas.proofs.{◌≡◌}
use Rattle.rdf_values.proofs.KeptLemmas.{partly_cut}
use Rattle.rdf_values.proofs.tables.filling.cut_back.Given as goal

abbrev pub invariant-loop-column : goal.invariant-loop-column
invariant-loop-column l = l.cells ≡ partly_cut l.entries l.column-index l.initial.cells
