use Rattle.lemmas.proofs.{length, refl, ap, ◌∙◌}
use Rattle.graph_numbers.specs.{booked_statements, graph_sites, GraphView}
use Rattle.graph.specs.{statements}
use Rattle.snapshot_entries.specs.{data_of, plan_of}
use Rattle.snapshot_entries.proofs.Versions.{filters_are, sites_many}
use Rattle.snapshot_entries.proofs.wanted.WantedSites.of.Goals as goal

pub filter_sites-requires : goal.filter_sites-requires
filter_sites-requires g c =
    sites_many (plan_of c.args.job.now) (data_of c.args.job.now) c.requires.work (plan_of c.args.job.now).graph.header (statements c.lines.result.now) refl (c.lines.ensures.value ∙ ap booked_statements c.graph-graph.ensures)
    c.sites.result (c.sites.ensures ∙ ap (λ (g : GraphView). length (graph_sites g)) c.graph-graph.ensures)

pub returns : goal.returns
returns g c = record {
  filters = filters_are (plan_of c.args.job.now) (data_of c.args.job.now) c.requires.work (plan_of c.args.job.now).graph.header (statements c.lines.result.now) refl (c.lines.ensures.value ∙ ap booked_statements c.graph-graph.ensures)
      c.node.result.now c.in_ok-filters.filters c.node.ensures c.in_ok-filters.ensures;
  columns = c.in_ok-columns.ensures;
}
