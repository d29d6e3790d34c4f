use Rattle.std.proofs.Common.{◌∙◌, ap, inl, inr, map, sym}
use Rattle.std.proofs.lemmas.Result.{IfOk-weaker}
use Rattle.clap.specs.Words.{is_simple_and_free}
use Rattle.command_words.proofs.Taken.{rdf_free, refused_by, taken_by}
use Rattle.command_words.proofs.read.read_command.Goals as goal

pub returns-in-Ok : goal.returns-in-Ok
returns-in-Ok c =
    let is = c.in_ok-arguments.ensures in
    let parse = c.in-Ok.ensures in
    let words = ap (map (λ w. w.now)) c.as_slice.ensures.value ∙ c.in_ok-list.ensures in
    let asked = taken_by _ _ _ _ is words parse.matches (parse.kinds (ap is_simple_and_free is ∙ rdf_free)) in
    IfOk-weaker c.asked.result _ _ (λ r h. h ∙ sym asked) c.asked.ensures

pub returns : goal.returns
returns c =
    let is = c.in_ok-arguments.ensures in
    let kinds = c.in-Err.ensures.kinds (ap is_simple_and_free is ∙ rdf_free) in
    let words = ap (map (λ w. w.now)) c.as_slice.ensures.value ∙ c.in_ok-list.ensures in
    elim kinds [
      | inl memory ↦ absurd (c.in_default.not-OutOfMemory (c.kind.ensures ∙ memory))
      | inr among ↦ sym (refused_by _ _ _ _ is words among)
    ]
