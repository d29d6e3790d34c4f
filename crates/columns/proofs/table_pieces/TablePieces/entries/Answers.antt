use Rattle.lemmas.proofs.{map, sym}
use Rattle.rdf_values.proofs.KeptLemmas.{holds_table, length-rows_kept}
use Rattle.columns.specs.{whole}
use Rattle.columns.proofs.table_pieces.TablePieces.entries.Goals as goal

pub returns-clause-value : goal.returns-clause-value
returns-clause-value c = rw (← c.self.view_is) (sym (length-rows_kept c.self.inside.entries (map whole c.self.inside.pieces.items)))

pub returns-clause-valid : goal.returns-clause-valid
returns-clause-valid c = rw (← c.self.view_is) (holds_table _ _ _ c.self.invariant)
