use Rattle.lemmas.proofs.{◌≡◌, rules, ◌∙◌, sym, ap, true, int_le}
use Rattle.std.proofs.lemmas.List.Sorted.{IsPartitionPoint-from_clause}
use Rattle.rdf_values.specs.{bin, rises}
use Rattle.histograms.proofs.Filling.{rises_of_axis, partitioned_by_rise, count_by-partition}
use Rattle.histograms.proofs.edges.Edges.halve.Goals as goal

pub returns-clause-value : goal.returns-clause-value
returns-clause-value c =
    let rise : rises c.as_slice.result.now ≡ true = ap rises c.as_slice.ensures.value ∙ rises_of_axis c.self.inside.edges.items c.self.invariant.axis.rise in
    let point = IsPartitionPoint-from_clause (λ e. int_le e c.args.value) _ _ c.partition_point.ensures.partitioned (partitioned_by_rise _ c.args.value rise) (λ a r q k. search rules) in
    let counted = count_by-partition (λ e. int_le e c.args.value) _ _ c.partition_point.ensures.bound point in
    sym (ap (λ edges. bin edges c.args.value) (sym c.self.view_is ∙ sym c.as_slice.ensures.value) ∙ counted)
