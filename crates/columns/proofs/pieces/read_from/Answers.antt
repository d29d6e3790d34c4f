use Rattle.lemmas.proofs.{arith, length}
use Rattle.columns.proofs.InPieces.{read_more, read_on}
use Rattle.columns.proofs.pieces.read_from.Goals as goal
use Rattle.columns.proofs.pieces.read_from.Goals.{then-lo-end, else-lo-end}

pub loop-piece-preserved : goal.loop-piece-preserved
loop-piece-preserved c =
    let size = c.len.ensures in
    elim c.if-lo-end.branch [
      | then-lo-end w ↦ read_more c.args.pieces.now c.args.lo (length c.args.numbers.now) c.loop-piece.piece-index c.loop-piece.before c.if-lo-end.before w.max-from.result w.min-to.result c.piece-item.result c.loop-piece.numbers w.read.new.numbers c.if-lo-end.numbers
          c.loop-piece.invariant c.piece-item.is c.loop-piece-test.true (omega (arith, w.before-is, size)) c.loop-piece.auto.numbers c.if-hi-before.false (omega (arith, w.if-lo-end.true, w.before-is)) w.max-from.ensures (omega (arith, w.min-to.ensures, w.before-is)) w.read.ensures w.numbers-is
      | else-lo-end w ↦ read_on c.args.pieces.now c.args.lo (length c.args.numbers.now) c.loop-piece.piece-index c.loop-piece.before c.if-lo-end.before c.piece-item.result c.loop-piece.numbers c.if-lo-end.numbers
          c.loop-piece.invariant c.piece-item.is c.loop-piece-test.true (omega (arith, w.before-is, size)) (omega (arith, w.if-lo-end.false, w.before-is)) w.numbers-is
    ]
