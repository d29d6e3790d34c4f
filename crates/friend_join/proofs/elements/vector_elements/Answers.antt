use Rattle.lemmas.proofs.{arith}
use Rattle.friend_join.proofs.Counting.{piece_few, piece_small}
use Rattle.friend_join.proofs.elements.vector_elements.Goals as goal

pub piece_elements-elements-requires-clause-few : goal.piece_elements-elements-requires-clause-few
piece_elements-elements-requires-clause-few c =
    let few = piece_few c.args.pieces.now c.loop-vectors.vectors-index 1000000 c.vectors-item.result c.vectors-item.is c.loop-vectors-test.true c.requires.few in
    omega (arith, few)

pub piece_elements-elements-requires-clause-small : goal.piece_elements-elements-requires-clause-small
piece_elements-elements-requires-clause-small c = piece_small c.args.pieces.now c.loop-vectors.vectors-index c.vectors-item.result c.vectors-item.is c.loop-vectors-test.true c.requires.small

pub overflow_add-elements : goal.overflow_add-elements
overflow_add-elements c =
    let few = piece_few c.args.pieces.now c.loop-vectors.vectors-index 1000000 c.vectors-item.result c.vectors-item.is c.loop-vectors-test.true c.requires.few in
    let more = c.piece_elements-elements.ensures.few in
    let so_few = c.loop-vectors.invariant.few in
    omega (arith, few, more, so_few)
