use Rattle.lemmas.proofs.{◌++◌, ◌+◌, None, length, sym, ap, ◌∙◌, arith, append_assoc, on_ok, something_at}
use Rattle.rdf_model.specs.{filled_lines, label}
use Rattle.graph.specs.{has}
use Rattle.graph_numbers.specs.{graph_results}
use Rattle.result_text.specs.{members_from, under_lines}
use Rattle.result_text.proofs.PassLines.{accs_within, its_name, members_many, nominal_text, numbers_few, passes_many, varied_text}
use Rattle.result_text.proofs.results.put_action.Goals as goal

pub acc-nominal-requires : goal.acc-nominal-requires
acc-nominal-requires c =
    let g = c.args.graph.now in
    let filled = c.args.filled.now in
    let x = something_at (graph_results g) c.args.r c.requires.result in
    let many = passes_many g x.0 filled c.args.kind.now (c.requires.action x.0 x.1) (c.requires.filled x.0 x.1) in
    let within = accs_within g x.0 filled c.args.kind.now (c.requires.action x.0 x.1) (c.requires.filled x.0 x.1) 0 (omega arith) in
    let size = filled.piece.now.accs.ok.0 in
    omega arith

pub returns-then-filled-eq1 : goal.returns-then-filled-eq1
returns-then-filled-eq1 = grind (arith, its_name, nominal_text)

pub put_varied-requires-clause-passes : goal.put_varied-requires-clause-passes
put_varied-requires-clause-passes c =
    let g = c.args.graph.now in
    let filled = c.args.filled.now in
    let x = something_at (graph_results g) c.args.r c.requires.result in
    let many = passes_many g x.0 filled c.args.kind.now (c.requires.action x.0 x.1) (c.requires.filled x.0 x.1) in
    members_many g x.0 filled c.args.kind.now (c.requires.action x.0 x.1) (c.requires.filled x.0 x.1) c.args.r (has c.depends.result) x.1 c.depends.ensures (omega arith)
    ∙ ap (λ vs. length (members_from (has c.depends.result) 0 vs) + 1) (sym c.variations.ensures)

pub put_varied-requires-clause-accs : goal.put_varied-requires-clause-accs
put_varied-requires-clause-accs c = λ i lt.
    let g = c.args.graph.now in
    let filled = c.args.filled.now in
    let x = something_at (graph_results g) c.args.r c.requires.result in
    let within = accs_within g x.0 filled c.args.kind.now (c.requires.action x.0 x.1) (c.requires.filled x.0 x.1) i lt in
    let size = filled.piece.now.accs.ok.0 in
    omega arith

pub put_varied-requires-clause-numbers : goal.put_varied-requires-clause-numbers
put_varied-requires-clause-numbers c =
    let x = something_at (graph_results c.args.graph.now) c.args.r c.requires.result in
    numbers_few c.args.graph.now x.0 c.args.filled.now c.args.kind.now (c.requires.action x.0 x.1) (c.requires.filled x.0 x.1)

pub returns : goal.returns
returns c = λ x at.
    let g = c.args.graph.now in
    let filled = c.args.filled.now in
    let kind = c.args.kind.now in
    let name = c.result_name.result.now in
    let accs = filled.piece.now.accs.items in
    let members = members_from (has c.depends.result) 0 c.variations.result.now in
    let many = passes_many g x filled kind (c.requires.action x at) (c.requires.filled x at) in
    let named = its_name (graph_results g) c.args.r x name at c.result_name.ensures in
    on_ok c.put_varied.result _ _
    (λ e. e ∙ ap (λ t. t ++ under_lines name kind accs (filled.first + 1) members) c.in_ok-put_pass.ensures
    ∙ append_assoc c.args.text.now (filled_lines kind (label name None) c.acc-nominal.result.now.filled) (under_lines name kind accs (filled.first + 1) members)
    ∙ ap (λ n. c.args.text.now ++ (filled_lines kind (label n None) c.acc-nominal.result.now.filled ++ under_lines n kind accs (filled.first + 1) members)) named
    ∙ ap (λ vs. c.args.text.now ++ (filled_lines kind (label x.booked.name None) c.acc-nominal.result.now.filled ++ under_lines x.booked.name kind accs (filled.first + 1) (members_from (has c.depends.result) 0 vs))) c.variations.ensures
    ∙ ap (λ l. c.args.text.now ++ l) (sym (varied_text g x filled kind (c.requires.action x at) (c.requires.filled x at) c.args.r (has c.depends.result) at c.depends.ensures (omega arith) c.acc-nominal.result.now c.acc-nominal.ensures)))
    c.put_varied.ensures
