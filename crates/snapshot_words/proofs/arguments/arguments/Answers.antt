use Rattle.lemmas.proofs.{◌≡◌, ◌∙◌, ap, ap₂, codes, true}
use Rattle.std.proofs.lemmas.Result.{IfOk-weaker}
use Rattle.clap.specs.Words.{app_of, new_app, with_rule}
use Rattle.clap.specs.Simple.{app_of_fields, on_top}
use Rattle.snapshot_words.specs.{snapshot_command}
use Rattle.snapshot_words.proofs.arguments.arguments.Goals as goal

pub returns : goal.returns
unfolding snapshot_command
returns c =
    let named : app_of c.no_binary_name.result ≡ on_top (λ s. record s { no_binary_name = true }) (new_app (codes "rdf_snapshot")) = ap app_of_fields c.no_binary_name.ensures ∙ ap (on_top (λ s. record s { no_binary_name = true })) c.new.ensures.app in
    let script = c.in_ok-arg.ensures.shape c.positional.ensures.local ∙ ap₂ with_rule named c.positional.ensures.rule in
    let table = c.in_ok-arg-2.ensures.shape c.positional-2.ensures.local ∙ ap₂ with_rule script c.positional-2.ensures.rule in
    let node = c.in_ok-arg-3.ensures.shape c.positional-3.ensures.local ∙ ap₂ with_rule table c.positional-3.ensures.rule in
    let columns = c.in_ok-arg-4.ensures.shape c.positional-4.ensures.local ∙ ap₂ with_rule node c.positional-4.ensures.rule in
    let under = c.in_ok-arg-5.ensures.shape c.positional-5.ensures.local ∙ ap₂ with_rule columns c.positional-5.ensures.rule in
    let slots = c.in_ok-arg-6.ensures.shape c.option.ensures.local ∙ ap₂ with_rule under c.option.ensures.rule in
    IfOk-weaker c.arg-7.result _ _ (λ r h. h.shape c.option-2.ensures.local ∙ ap₂ with_rule slots c.option-2.ensures.rule) c.arg-7.ensures
