use Rattle.columns.proofs.BlockSteps.{block_of}
use Rattle.columns.proofs.packed_ints.PackedInts.packing.Goals as goal

pub returns : goal.returns
returns c =
    let there = rw (← c.self.view_is) at c.requires in
    let block = block_of c.self.inside.bytes.items c.self.inside.blocks.items c.args.cluster c.index.result.now c.self.invariant there c.index.ensures in
    rw (← c.self.view_is) block.packing
