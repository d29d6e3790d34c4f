use Rattle.loop_pieces.proofs.WatchLemmas.{can_add, watch_joined}
use Rattle.loop_pieces.proofs.watch_piece.WatchPiecePiece.join.Goals as goal

pub add-requires : goal.add-requires
add-requires c =
    let r = c.requires in
    can_add r.0 r.1 r.2 r.3 c.args.self.now c.args.other r.4 r.5 r.6

pub returns : goal.returns
returns c = λ job mine theirs all s t u. watch_joined job mine theirs all c.args.self.now c.args.other s t u c.add.result c.add.ensures
