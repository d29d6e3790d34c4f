use Rattle.lemmas.proofs.{ap, length, ◌∙◌, sym, slice_get}
use Rattle.rdf_values.specs.{named_before}
use Rattle.graph.specs.{labels, statements}
use Rattle.graph.proofs.Finished.{history_of, label_count, label_is, booked_now}
use Rattle.graph_numbers.specs.{booked_statements}
use Rattle.graph.proofs.graph.Graph.label.Goals as goal

pub label_of-requires-clause-all : goal.label_of-requires-clause-all
label_of-requires-clause-all c =
    ap length c.as_slice-count.ensures.value
    ∙ label_count c.self.invariant
    ∙ ap (λ h. length (named_before h)) (sym (history_of c.self.inside.lines.items c.self.inside.header c.self.inside.names)) ∙ ap (λ ls. length (named_before (statements ls))) (sym c.as_slice.ensures.value)

pub returns : goal.returns
returns c =
    label_is (booked_now c.self.view_is c.self.invariant) c.args.f c.label_of.result.now
    (ap (λ g. slice_get (labels (booked_statements g)) c.args.f) (sym c.self.view_is)
    ∙ ap (λ h. slice_get (labels h) c.args.f) (sym (history_of c.self.inside.lines.items c.self.inside.header c.self.inside.names))
    ∙ ap (λ ls. slice_get (labels (statements ls)) c.args.f) (sym c.as_slice.ensures.value) ∙ c.label_of.ensures)
