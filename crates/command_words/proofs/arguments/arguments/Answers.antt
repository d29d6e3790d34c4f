use Rattle.std.proofs.Common.{◌≡◌, ◌∙◌, ap, ap₂, codes, true}
use Rattle.std.proofs.lemmas.Result.{IfOk-weaker}
use Rattle.clap.specs.Words.{app_of, new_app, with_rule}
use Rattle.clap.specs.Simple.{app_of_fields, on_top}
use Rattle.command_words.specs.{rdf_command}
use Rattle.command_words.proofs.arguments.arguments.Goals as goal

pub returns : goal.returns
unfolding rdf_command
returns c =
    let named : app_of c.no_binary_name.result ≡ on_top (λ s. record s { no_binary_name = true }) (new_app (codes "rdf")) = ap app_of_fields c.no_binary_name.ensures ∙ ap (on_top (λ s. record s { no_binary_name = true })) c.new.ensures.app in
    let script = c.in_ok-arg.ensures.shape c.positional.ensures.local ∙ ap₂ with_rule named c.positional.ensures.rule in
    let table = c.in_ok-arg-2.ensures.shape c.positional-2.ensures.local ∙ ap₂ with_rule script c.positional-2.ensures.rule in
    let slots = c.in_ok-arg-3.ensures.shape c.option.ensures.local ∙ ap₂ with_rule table c.option.ensures.rule in
    let cluster = c.in_ok-arg-4.ensures.shape c.option-2.ensures.local ∙ ap₂ with_rule slots c.option-2.ensures.rule in
    let watch = c.in_ok-arg-5.ensures.shape c.option-3.ensures.local ∙ ap₂ with_rule cluster c.option-3.ensures.rule in
    let make = c.in_ok-arg-6.ensures.shape c.flag.ensures.local ∙ ap₂ with_rule watch c.flag.ensures.rule in
    let friend = c.in_ok-arg-7.ensures.shape c.option-4.ensures.local ∙ ap₂ with_rule make c.option-4.ensures.rule in
    let key = c.in_ok-arg-8.ensures.shape c.option-5.ensures.local ∙ ap₂ with_rule friend c.option-5.ensures.rule in
    IfOk-weaker c.arg-9.result _ _ (λ r h. h.shape c.option-6.ensures.local ∙ ap₂ with_rule key c.option-6.ensures.rule) c.arg-9.ensures
