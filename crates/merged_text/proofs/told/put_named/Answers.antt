use Rattle.lemmas.proofs.{◌++◌, sym, ap, ◌∙◌, append-nil, on_ok}
use Rattle.rdf_values.specs.{same}
use Rattle.result_text.proofs.PassLines.{is_pass_at, result_within}
use Rattle.merged_text.proofs.LoopPasses.{name_of}
use Rattle.merged_text.proofs.Printing.{named_no, named_yes}
use Rattle.merged_text.proofs.told.put_named.Goals as goal

pub result_name-requires : goal.result_name-requires
result_name-requires c =
    let g = c.args.graph.now in
    let its = c.requires.its_pass in
    result_within g its.0 its.1 c.args.pass (is_pass_at g its.0 its.1 its.2.passes c.args.pass its.2.its_loop its.2.its_pass)

pub returns-then-is : goal.returns-then-is
returns-then-is c = λ l n p is at.
    let g = c.args.graph.now in
    let its = is_pass_at g l n is.passes c.args.pass is.its_loop is.its_pass in
    let named = name_of g l n c.args.pass its p at c.result_name.result.now c.result_name.ensures in
    on_ok c.put_pass.result _ _
    (λ e. e ∙ ap (λ t. c.args.text.now ++ t) (named_yes c.args.name.now p c.args.line.now (ap (λ m. same m c.args.name.now) (sym named) ∙ sym c.is.ensures ∙ c.if-is.true)))
    (c.put_pass.ensures l n p is at)

pub returns-else-is : goal.returns-else-is
returns-else-is c = λ l n p is at.
    let g = c.args.graph.now in
    let its = is_pass_at g l n is.passes c.args.pass is.its_loop is.its_pass in
    let named = name_of g l n c.args.pass its p at c.result_name.result.now c.result_name.ensures in
    sym (append-nil c.args.text.now) ∙ sym (ap (λ t. c.args.text.now ++ t) (named_no c.args.name.now p c.args.line.now (ap (λ m. same m c.args.name.now) (sym named) ∙ sym c.is.ensures ∙ c.if-is.false)))
