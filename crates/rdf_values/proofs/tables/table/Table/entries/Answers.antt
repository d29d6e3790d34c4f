use Rattle.lemmas.proofs.{ap, length, ◌∙◌, sym}
use Rattle.rdf_values.proofs.KeptLemmas.{length-rows_kept, holds_table}
use Rattle.rdf_values.proofs.tables.table.Table.entries.Goals as goal

pub returns-clause-value : goal.returns-clause-value
returns-clause-value c = sym (length-rows_kept _ _) ∙ ap (λ v. length v.rows) c.self.view_is

pub returns-clause-valid : goal.returns-clause-valid
returns-clause-valid c = rw (← c.self.view_is) (holds_table _ _ _ c.self.invariant)
