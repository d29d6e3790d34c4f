use Rattle.lemmas.proofs.{◌≡◌, ◌++◌, drop, flat_map}
use Rattle.rdf_model.specs.{flow_line}
use Rattle.result_text.specs.{flow_at}
use Rattle.result_text.proofs.results.put_report.Given as goal

abbrev pub invariant-loop-f : goal.invariant-loop-f
invariant-loop-f l =
    l.text ++ flat_map (λ f. flow_line l.report.name.now l.reached (flow_at l.report.graph.now l.report.flow.now f).0 (flow_at l.report.graph.now l.report.flow.now f).1) (drop l.f-index l.covered)
    ≡ l.fn.text ++ flat_map (λ f. flow_line l.report.name.now l.reached (flow_at l.report.graph.now l.report.flow.now f).0 (flow_at l.report.graph.now l.report.flow.now f).1) l.covered
