use Rattle.lemmas.proofs.{◌<◌, ◌++◌, All, length, subst, sym, ap, ◌∙◌, append_assoc, codes, on_ok, something_at}
use Rattle.graph_numbers.specs.{graph_filters, graph_results}
use Rattle.rdf_model.specs.{flow_lines, label}
use Rattle.result_text.specs.{under_in, value_lines}
use Rattle.result_text.proofs.PassLines.{its_covers, is_pass_at, result_within, covers_within}
use Rattle.result_text.proofs.Within.{IsIn, is_in_for, variation_within}
use Rattle.merged_text.specs.{filter_counts, line_filled}
use Rattle.merged_text.proofs.LoopPasses.{action_text, report_on, report_text}
use Rattle.merged_text.proofs.told.put_pass.Goals as goal

pub result_name-name-requires : goal.result_name-name-requires
result_name-name-requires c =
    let g = c.args.graph.now in
    let its = c.requires.its_pass in
    result_within g its.0 its.1 c.args.pass (is_pass_at g its.0 its.1 its.2.passes c.args.pass its.2.its_loop its.2.its_pass)

pub kind-requires : goal.kind-requires
kind-requires c =
    let g = c.args.graph.now in
    let its = c.requires.its_pass in
    result_within g its.0 its.1 c.args.pass (is_pass_at g its.0 its.1 its.2.passes c.args.pass its.2.its_loop its.2.its_pass)

pub put_label-requires : goal.put_label-requires
put_label-requires c =
    let its = c.requires.its_pass in
    is_in_for _ c.args.pass.variation (subst (λ vs. IsIn (length vs) c.args.pass.variation) (sym c.variations.ensures) (variation_within c.args.graph.now its.0 its.1 its.2.passes c.args.pass its.2.its_loop its.2.its_pass))

pub covered-covered-requires : goal.covered-covered-requires
covered-covered-requires c =
    let g = c.args.graph.now in
    let its = c.requires.its_pass in
    result_within g its.0 its.1 c.args.pass (is_pass_at g its.0 its.1 its.2.passes c.args.pass its.2.its_loop its.2.its_pass)

pub put_flows-requires : goal.put_flows-requires
put_flows-requires c =
    let g = c.args.graph.now in
    let its = c.requires.its_pass in
    let r = c.args.pass.result in
    let x = something_at (graph_results g) r (result_within g its.0 its.1 c.args.pass (is_pass_at g its.0 its.1 its.2.passes c.args.pass its.2.its_loop its.2.its_pass)) in
    record { covered = subst (λ l. All (λ f. f < length (graph_filters g)) l) (sym (its_covers (graph_results g) r x.0 c.covered-covered.result.now x.1 c.covered-covered.ensures)) (covers_within g r x.0 x.1) }

pub returns-in_ok-extend-in-Action : goal.returns-in_ok-extend-in-Action
returns-in_ok-extend-in-Action c = λ l n p is at.
    let g = c.args.graph.now in
    let its = is_pass_at g l n is.passes c.args.pass is.its_loop is.its_pass in
    let name = c.result_name-name.result.now in
    let v = c.args.pass.variation in
    let value = value_lines c.in-Action.kind (line_filled c.in-Action.kind c.args.line.now) in
    let text = c.args.text.now in
    let front = label name (under_in c.variations.result.now v) in
    on_ok c.put_line.result _ _
    (λ e. e ∙ ap (λ t. t ++ value) (c.in_ok-extend-in-Action.ensures.ok ∙ ap (λ t. t ++ codes " = ") c.in_ok-put_label-in-Action.ensures ∙ append_assoc text front (codes " = ")) ∙ append_assoc text (front ++ codes " = ") value
    ∙ ap (λ vs. text ++ ((label name (under_in vs v) ++ codes " = ") ++ value)) c.variations.ensures
    ∙ ap (λ t. text ++ t) (action_text g l n c.args.pass its p at c.kind.result.now c.kind.ensures c.in-Action.kind c.args.line.now name c.in-Action.is c.result_name-name.ensures))
    c.put_line.ensures

pub returns-in-Report : goal.returns-in-Report
returns-in-Report c = λ l n p is at.
    let g = c.args.graph.now in
    let its = is_pass_at g l n is.passes c.args.pass is.its_loop is.its_pass in
    let text = c.args.text.now in
    let name = c.result_name-name.result.now in
    let covers = c.covered-covered.result.now in
    let on = report_on g l n c.args.pass its p at c.kind.result.now c.kind.ensures covers c.in-Report.is c.covered-covered.ensures in
    on_ok c.put_flows.result _ _
    (λ e. e ∙ ap (λ b. text ++ flow_lines b (filter_counts (graph_filters g) covers c.counts_of.result.now)) c.bytes.ensures
    ∙ ap (λ cs. text ++ flow_lines name (filter_counts (graph_filters g) covers cs)) c.counts_of.ensures
    ∙ ap (λ t. text ++ t) (report_text g l n c.args.pass its p at c.kind.result.now c.kind.ensures covers c.args.line.now name on c.result_name-name.ensures))
    c.put_flows.ensures
