use Rattle.lemmas.proofs.{◌++◌, sym, ap, ◌∙◌, append_assoc, on_ok}
use Rattle.rdf_model.specs.{scalar_text, taken_text}
use Rattle.result_text.specs.{more_taken}
use Rattle.result_text.proofs.PassLines.{joined_front}
use Rattle.merged_text.proofs.values.put_values.Goals as goal

pub returns : goal.returns
returns c = on_ok c.put_others.result _ _
    (λ e. e ∙ ap (λ l. l ++ more_taken c.in-Some.others.now) c.in_ok-put_scalar.ensures ∙ append_assoc c.args.text.now _ _
    ∙ ap (λ l. c.args.text.now ++ l) (sym (joined_front 32 scalar_text c.in-Some.first.now c.in-Some.others.now))
    ∙ sym (ap (λ l. c.args.text.now ++ taken_text l) c.in-Some.ensures.cases.0))
    c.put_others.ensures
