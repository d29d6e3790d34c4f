use Rattle.lemmas.proofs.{◌≡◌, ◌<◌, ◌∙◌, ap, length, subst, sym}
use Rattle.columns.specs.Views.{CutsView}
use Rattle.entry_fns.specs.{functions_in}
use Rattle.graph_numbers.specs.{graph_loops, GraphView, IsGraph}
use Rattle.rdf_values.specs.{fn_names}
use Rattle.shard_loop.proofs.loops.loop_at.Goals as goal

pub run_loop-requires-clause-job : goal.run_loop-requires-clause-job
run_loop-requires-clause-job g c =
    let graph = c.args.graph.now in
    let same : ◌≡◌ {A = GraphView} graph (record { script = graph.script; header = c.args.columns.now.table.columns; names = fn_names (functions_in c.args.functions.now) })
    = λ i. record { script = graph.script; header = c.requires.graph.0 i; names = c.requires.graph.1 i } in
    record {
      graph = same;
      job = record {
        graph = subst IsGraph same c.is_booked.ensures;
        table = c.columns-columns.ensures.valid;
        cuts = ap (λ (v : CutsView). v.entries) (sym c.cuts-cuts.ensures.value) ∙ c.cuts-cuts.ensures.valid;
        loop = subst (λ (h : GraphView). c.args.number < length (graph_loops h)) same c.requires.number;
      };
    }
