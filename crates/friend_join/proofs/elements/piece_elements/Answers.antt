use Rattle.lemmas.proofs.{◌≤◌, arith, length, subst, sym, List, ℤ}
use Rattle.friend_join.proofs.Counting.{sum_next}
use Rattle.friend_join.proofs.Removing.{got}
use Rattle.friend_join.proofs.elements.piece_elements.Goals as goal

pub loop-i-preserved : goal.loop-i-preserved
loop-i-preserved c =
    let x = c.at.result.now in
    let found = got c.args.vectors.now c.loop-i.i x x c.at.ensures in
    let next = sum_next length c.args.vectors.now c.loop-i.i x found.0 (sym found.1) in
    let small : length x ≤ 4096 = subst (λ (v : List ℤ). length v ≤ 4096) found.1 (c.requires.small c.loop-i.i x found.0) in
    let so_far = c.loop-i.invariant.so_far in
    let few = c.loop-i.invariant.few in
    record { so_far = omega (arith, next, so_far); few = omega (arith, small, few) }
