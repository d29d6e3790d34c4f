use Rattle.lemmas.proofs.{length, sym, ap, ◌∙◌, arith}
use Rattle.graph_numbers.specs.{graph_sites, GraphView}
use Rattle.snapshot_entries.specs.{data_of, plan_of}
use Rattle.snapshot_entries.proofs.skim.Skim.new.Goals as goal

pub returns : goal.returns
returns g c = record {
  wanted = c.in_ok-wanted.ensures;
  known = c.in_ok-cells.ensures (plan_of c.args.job.now) (data_of c.args.job.now)
      (sym (c.sites.ensures ∙ ap (λ (g : GraphView). length (graph_sites g)) (c.graph.ensures ∙ c.requires.work.graph)))
      (let few = c.requires.work.table.few in omega (arith, few));
}
