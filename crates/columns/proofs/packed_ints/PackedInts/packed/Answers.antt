use Rattle.lemmas.proofs.{arith}
use Rattle.columns.proofs.BlockSteps.{block_bytes, block_of, block_size}
use Rattle.columns.proofs.packed_ints.PackedInts.packed.Goals as goal

pub overflow_add-result : goal.overflow_add-result
overflow_add-result c =
    let there = rw (← c.self.view_is) at c.requires in
    let block = block_of c.self.inside.bytes.items c.self.inside.blocks.items c.args.cluster c.index-block.result.now c.self.invariant there c.index-block.ensures in
    let size = block_size c.self.inside.bytes.items c.index-block.result.now _ block in
    let inside = block.inside in
    omega (arith, size, inside, c.self.inside.bytes.ok, c.self.inside.bytes.small)

pub slice_bounds-result-end : goal.slice_bounds-result-end
slice_bounds-result-end c =
    let there = rw (← c.self.view_is) at c.requires in
    let block = block_of c.self.inside.bytes.items c.self.inside.blocks.items c.args.cluster c.index-block.result.now c.self.invariant there c.index-block.ensures in
    let size = block_size c.self.inside.bytes.items c.index-block.result.now _ block in
    let inside = block.inside in
    rw c.deref.ensures.value (omega (arith, size, inside))

pub returns : goal.returns
returns = grind (arith, block_of, block_bytes)
