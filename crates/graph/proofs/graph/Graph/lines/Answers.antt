use Rattle.lemmas.proofs.{◌∙◌, ap}
use Rattle.graph.specs.{statements}
use Rattle.graph_numbers.specs.{booked_statements}
use Rattle.graph.proofs.Finished.{history_of}
use Rattle.graph.proofs.graph.Graph.lines.Goals as goal

pub returns-clause-value : goal.returns-clause-value
returns-clause-value c =
    ap statements c.as_slice.ensures.value ∙ history_of c.self.inside.lines.items c.self.inside.header c.self.inside.names ∙ ap booked_statements c.self.view_is
