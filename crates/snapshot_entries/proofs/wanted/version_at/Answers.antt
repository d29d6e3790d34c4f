use Rattle.lemmas.proofs.{length, ap, ◌∙◌, arith}
use Rattle.graph_numbers.specs.{booked_statements, graph_versions, GraphView}
use Rattle.graph.specs.{statements}
use Rattle.snapshot_entries.specs.{data_of, plan_of}
use Rattle.snapshot_entries.proofs.Versions.{version_few, versions_many}
use Rattle.snapshot_entries.proofs.wanted.version_at.Goals as goal

pub named_version-requires : goal.named_version-requires
named_version-requires g c =
    versions_many (plan_of c.args.job.now) (data_of c.args.job.now) c.requires.work c.header.result.now (statements c.lines-lines.result.now)
    (c.header.ensures ∙ ap (λ (g : GraphView). g.header) c.graph-graph.ensures) (c.lines-lines.ensures.value ∙ ap booked_statements c.graph-graph.ensures)
    c.versions-count.result (c.versions-count.ensures ∙ ap (λ (g : GraphView). length (graph_versions g)) c.graph-graph.ensures)

pub overflow_cast-result : goal.overflow_cast-result
overflow_cast-result g c =
    let few = version_few (plan_of c.args.job.now) (data_of c.args.job.now) c.requires.work c.header.result.now (statements c.lines-lines.result.now)
    (c.header.ensures ∙ ap (λ (g : GraphView). g.header) c.graph-graph.ensures) (c.lines-lines.ensures.value ∙ ap booked_statements c.graph-graph.ensures)
    c.versions-count.result (c.versions-count.ensures ∙ ap (λ (g : GraphView). length (graph_versions g)) c.graph-graph.ensures) _ _ c.named_version.result c.named_version.ensures in
    omega (arith, few)
