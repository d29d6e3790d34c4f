use Rattle.lemmas.proofs.{◌∙◌, ap, Some, sym, option_map, slice_get}
use Rattle.rdf_values.specs.{is_watched}
use Rattle.graph_numbers.specs.{booked_statements, graph_results, ResultAt}
use Rattle.graph.proofs.Finished.{twice}
use Rattle.graph.proofs.graph.Graph.watched.Goals as goal

pub returns : goal.returns
returns c =
    let before = booked_statements c.args.self.now in
    twice (λ (x : ResultAt). x.booked.name) (is_watched before) (slice_get (graph_results c.args.self.now) c.args.r)
    ∙ ap (option_map (is_watched before)) c.result_name.ensures
    ∙ ap (λ b. Some b) (ap (λ xs. is_watched xs c.result_name.result.now) (sym c.lines.ensures.value) ∙ sym c.is_watched.ensures)
