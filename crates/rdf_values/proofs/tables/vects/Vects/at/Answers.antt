use Rattle.rdf_values.proofs.PieceLemmas.{length-pieces}
use Rattle.rdf_values.proofs.tables.vects.Vects.at.Goals as goal

pub piece_at-requires-clause-there : goal.piece_at-requires-clause-there
piece_at-requires-clause-there c = rw c.as_slice-2.ensures.value (rw (← c.self.view_is, length-pieces) at c.requires)
