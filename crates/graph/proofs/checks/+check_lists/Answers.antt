use Rattle.lemmas.proofs.{◌∙◌, ◌∷◌, ap, subst, sym, on_ok}
use Rattle.graph.specs.{all_expressions, AppendsChecked, statements}
use Rattle.graph.proofs.Walking.{appends_both}
use Rattle.graph.proofs.checks.+check_lists.Goals as goal

pub returns-clause-checked : goal.returns-clause-checked
returns-clause-checked t c =
    on_ok c.check_lists.result _ _
    (λ k. subst (λ ls. AppendsChecked c.args.before.now c.args.change.now.parent.now (all_expressions ls) c.args.found.now.items c.check_lists.new.found.items) (sym (c.in-Some.ensures.cases.0 ∙ ap (λ es. es ∷ c.in-Some.lists.now) (sym c.as_slice.ensures)))
    (appends_both c.args.before.now.header.now c.args.before.now.names.now (statements c.args.before.now.lines.now) c.args.change.now.parent.now c.as_slice.result.now (all_expressions c.in-Some.lists.now) c.args.found.now.items c.check_list.new.found.items c.check_lists.new.found.items c.in_ok-check_list.ensures.checked k)) c.check_lists.ensures.checked
