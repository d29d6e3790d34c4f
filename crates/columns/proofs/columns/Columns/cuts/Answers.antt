use Rattle.lemmas.proofs.{map, sym}
use Rattle.rdf_values.proofs.KeptLemmas.{length-rows_kept}
use Rattle.columns.specs.{cells_of}
use Rattle.columns.proofs.columns.Columns.cuts.Goals as goal

pub returns-clause-valid : goal.returns-clause-valid
returns-clause-valid c = rw (← c.self.view_is) (sym (length-rows_kept c.self.inside.cuts.entries (map cells_of c.self.inside.kept.items)))
