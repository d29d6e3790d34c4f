use Rattle.rdf_values.proofs.PieceLemmas.{piece_at}
use Rattle.rdf_values.proofs.tables.vects.piece_at.Goals as goal

pub returns : goal.returns
returns c = rw c.begin_of-begin.ensures (piece_at c.args.ends.now 0 c.args.i c.args.elements.now c.requires.there)
