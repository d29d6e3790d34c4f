use Rattle.lemmas.proofs.{◌<◌, arith, length, map, subst, sym}
use Rattle.std.proofs.lemmas.List.{length-map}
use Rattle.columns.specs.{whole}
use Rattle.friend_join.specs.{column_elements, IsSmall}
use Rattle.friend_join.proofs.Counting.{small_at, sum_next}
use Rattle.friend_join.proofs.Removing.{whole_at}
use Rattle.friend_join.proofs.elements.elements.Goals as goal

pub column_elements-elements-requires : goal.column_elements-elements-requires
column_elements-elements-requires c =
    let columns = c.args.columns.now in
    let item = c.column-item.result in
    let below : c.loop-column.column-index < length (map whole columns) = omega (arith, c.loop-column-test.true, length-map columns whole) in
    subst IsSmall (sym (whole_at columns c.loop-column.column-index item c.loop-column-test.true c.column-item.is)) (small_at (map whole columns) c.loop-column.column-index (whole item) c.requires.small below)

pub loop-column-preserved : goal.loop-column-preserved
loop-column-preserved c =
    let columns = c.args.columns.now in
    let item = c.column-item.result in
    let below : c.loop-column.column-index < length (map whole columns) = omega (arith, c.loop-column-test.true, length-map columns whole) in
    let next = sum_next column_elements (map whole columns) c.loop-column.column-index (whole item) below (whole_at columns c.loop-column.column-index item c.loop-column-test.true c.column-item.is) in
    let value = c.column_elements-elements.ensures.value in
    let small = c.column_elements-elements.ensures.few in
    let so_far = c.loop-column.invariant.so_far in
    let few = c.loop-column.invariant.few in
    record { so_far = omega (arith, next, value, so_far); few = omega (arith, small, few) }
