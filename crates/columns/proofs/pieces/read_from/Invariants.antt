use Rattle.lemmas.proofs.{length}
use Rattle.columns.proofs.InPieces.{AreReadUpTo}
use Rattle.columns.proofs.pieces.read_from.Given as goal

abbrev pub invariant-loop-piece : goal.invariant-loop-piece
invariant-loop-piece l = AreReadUpTo l.pieces l.lo (length l.initial.numbers) l.piece-index l.before l.numbers
