use Rattle.lemmas.proofs.{◌∙◌, ap, inl, inr, map, sym}
use Rattle.std.proofs.lemmas.Result.{IfOk-weaker}
use Rattle.clap.specs.Words.{is_simple_and_free}
use Rattle.snapshot_words.proofs.Taken.{is_free, refused_by, taken_by}
use Rattle.snapshot_words.proofs.read.read_command.Goals as goal

pub returns-in-Ok-try_get_matches_from : goal.returns-in-Ok-try_get_matches_from
returns-in-Ok-try_get_matches_from c =
    let is = c.in-Ok.ensures in
    let parse = c.in-Ok-try_get_matches_from.ensures in
    let words = ap (map (λ w. w.now)) c.as_slice.ensures.value ∙ c.in_ok-list.ensures in
    let asked = taken_by _ _ _ _ is words parse.matches (parse.kinds (ap is_simple_and_free is ∙ is_free)) in
    IfOk-weaker c.asked.result _ _ (λ r h. h ∙ sym asked) c.asked.ensures

pub returns : goal.returns
returns c =
    let is = c.in-Ok.ensures in
    let kinds = c.in-Err.ensures.kinds (ap is_simple_and_free is ∙ is_free) in
    let words = ap (map (λ w. w.now)) c.as_slice.ensures.value ∙ c.in_ok-list.ensures in
    elim kinds [
      | inl memory ↦ absurd (c.in_default-kind.not-OutOfMemory (c.kind.ensures ∙ memory))
      | inr among ↦ sym (refused_by _ _ _ _ is words among)
    ]
