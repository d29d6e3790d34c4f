use Rattle.lemmas.proofs.{◌++◌, ap, ◌∙◌, arith, flat_map, drop_all}
use Rattle.rdf_model.specs.{flow_line}
use Rattle.result_text.specs.{flow_at}
use Rattle.result_text.proofs.PassLines.{put_last, report_lines}
use Rattle.result_text.proofs.results.put_report.Goals as goal

pub returns : goal.returns
returns c =
    let report = c.args.report.now in
    let covered = c.args.covered.now in
    let counts = c.counts-reached.result in
    let g = report.graph.now in
    let flow = report.flow.now in
    put_last _ _ _ c.loop-f.invariant (ap (flat_map (λ f. flow_line report.name.now counts.all (flow_at g flow f).0 (flow_at g flow f).1)) (drop_all c.loop-f.f-index covered (omega arith)))
    ∙ ap (λ l. c.args.text.now ++ l) (report_lines g flow report.name.now c.in-Some.first.now _ covered counts c.in-Some.ensures.cases.0 c.counts-reached.ensures)
