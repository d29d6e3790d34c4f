use Rattle.lemmas.proofs.{◌∙◌, map, sym}
use Rattle.rdf_values.proofs.KeptLemmas.{holds_table, length-rows_kept}
use Rattle.columns.specs.{cells_of}
use Rattle.columns.proofs.columns.Columns.entries.Goals as goal

pub returns-clause-value : goal.returns-clause-value
returns-clause-value c = rw (← c.self.view_is) (c.entries.ensures.value ∙ sym (length-rows_kept c.self.inside.cuts.entries (map cells_of c.self.inside.kept.items)))

pub returns-clause-valid : goal.returns-clause-valid
returns-clause-valid c = rw (← c.self.view_is) (holds_table _ _ _ c.self.invariant.table)
