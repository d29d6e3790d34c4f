use Rattle.lemmas.proofs.{leb, rules}
use Rattle.std.proofs.lemmas.List.Sorted.{IsPartitionPoint-from_clause, IsPartitionedBy-leb}
use Rattle.columns.proofs.Clusters.{holds_first, they_rise}
use Rattle.columns.proofs.cuts.Cuts.cluster_of.Goals as goal

pub returns-in-Marked : goal.returns-in-Marked
returns-in-Marked c =
    let kept = rw c.in-Marked.is at c.self.invariant.kept in
    let there = rw (← c.self.view_is) at c.requires in
    let rise = they_rise c.in-Marked.ends c.self.inside.entries c.self.inside.size c.self.inside.marks kept in
    let parted = IsPartitionedBy-leb (λ x. x) c.in-Marked.ends c.args.entry rise in
    let point = IsPartitionPoint-from_clause (λ x. leb x c.args.entry) _ _ (rw c.as_slice.ensures at c.partition_point.ensures.partitioned) parted (λ a r q k. search rules) in
    rw (← c.self.view_is) (holds_first c.in-Marked.ends c.self.inside.entries c.self.inside.size c.self.inside.marks c.args.entry c.partition_point.result kept there point.0 point.1)
