use Rattle.lemmas.proofs.{subst, sym, arith, on_ok, with_items, with_items_is}
use Rattle.loop_pieces.specs.{AreMerged, CanMerge, LoopPiece}
use Rattle.loop_pieces.proofs.ByCluster.{can_merge, have_room, joined}
use Rattle.loop_pieces.proofs.loop_piece.LoopPiecePiece.join.Goals as goal

pub merge-requires-clause-room : goal.merge-requires-clause-room
merge-requires-clause-room c =
    let r = c.requires in
    have_room r.0 r.1 r.2 r.3 c.args.self.now c.args.other r.4 r.5 r.6

pub merge_accs-requires : goal.merge_accs-requires
merge_accs-requires c =
    let r = c.requires in
    subst (λ l. CanMerge l c.as_slice.result.now) (sym c.as_mut_slice.ensures.value)
    (subst (CanMerge c.args.self.now.accs.items) (sym c.as_slice.ensures.value) (can_merge r.0 r.1 r.2 r.3 c.args.self.now c.args.other r.4 r.5 r.6))

pub returns-clause-stands : goal.returns-clause-stands
returns-clause-stands c = λ job mine theirs all s t u.
    let r : LoopPiece = record { accs = with_items c.args.self.now.accs c.merge_accs.new.mine; flow = c.merge.new.self; trails = c.clear.new.self } in
    on_ok c.merge_accs.result _ _
    (λ merged. let m : AreMerged c.args.self.now.accs.items c.args.other.accs.items c.merge_accs.new.mine = subst (λ l. AreMerged l c.args.other.accs.items c.merge_accs.new.mine) c.as_mut_slice.ensures.value
    (subst (λ l. AreMerged c.as_mut_slice.result.now l c.merge_accs.new.mine) c.as_slice.ensures.value merged) in
    joined job mine theirs all c.args.self.now c.args.other s t u r (subst (AreMerged c.args.self.now.accs.items c.args.other.accs.items) (sym (with_items_is c.args.self.now.accs c.merge_accs.new.mine (let k = c.args.self.now.accs.ok.0 in omega (arith, m.many)))) m) c.merge.ensures)
    c.merge_accs.ensures
