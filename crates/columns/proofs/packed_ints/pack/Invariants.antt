use Rattle.lemmas.proofs.{take}
use Rattle.rdf_values.specs.{cut}
use Rattle.columns.specs.{AreBlocks, cluster_values, joined}
use Rattle.columns.proofs.packed_ints.pack.Given as goal

abbrev pub invariant-loop-cluster : goal.invariant-loop-cluster
invariant-loop-cluster l = AreBlocks l.bytes.items l.blocks.items (take l.cluster (cluster_values (cut l.cuts.entries l.cuts.size l.cuts.marks) (joined l.pieces)))
