use Rattle.lemmas.proofs.{◌∙◌, arith, common_steps, take_next}
use Rattle.std.proofs.lemmas.List.{length-map, take_all}
use Rattle.rdf_values.specs.{cut}
use Rattle.columns.specs.{cluster_values, joined}
use Rattle.columns.proofs.BlockSteps.{block_more, blocks_back, blocks_hold, cluster_within, values_of_cluster}
use Rattle.columns.proofs.packed_ints.pack.Goals as goal

pub pack_cluster-requires-clause-some : goal.pack_cluster-requires-clause-some
pack_cluster-requires-clause-some c =
    let within = cluster_within c.args.cuts.now.entries c.args.cuts.now.size c.args.cuts.now.marks _ _ c.range-range.ensures in
    grind (arith, common_steps, within)

pub loop-cluster-preserved : goal.loop-cluster-preserved
loop-cluster-preserved c =
    let spans = cut c.args.cuts.now.entries c.args.cuts.now.size c.args.cuts.now.marks in
    let one = take_next (cluster_values spans (joined c.args.pieces.now)) c.loop-cluster.cluster _ (values_of_cluster spans (joined c.args.pieces.now) c.loop-cluster.cluster c.range-range.result c.range-range.ensures) in
    let packed = rw (c.as_slice.ensures.value ∙ c.in_ok-gather.ensures) at c.in_ok-block.ensures in
    rw (one, c.in_ok-push.ensures.items) (block_more c.loop-cluster.bytes.items c.in_ok-block.grown.items c.loop-cluster.blocks.items _ c.in_ok-block.block _ c.loop-cluster.invariant packed.grown packed.block)

pub invariant_of-result : goal.invariant_of-result
invariant_of-result c = blocks_hold c.loop-cluster.bytes.items c.loop-cluster.blocks.items _ c.loop-cluster.invariant

pub returns : goal.returns
returns = grind (arith, length-map, blocks_back, take_all)
