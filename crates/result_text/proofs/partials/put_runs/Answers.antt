use Rattle.lemmas.proofs.{◌≡◌, ◌<◌, ◌++◌, sym, ap, ◌∙◌, append_assoc, arith, All-tail, common_steps, drop_all}
use Rattle.rdf_values.specs.{Span}
use Rattle.result_text.specs.{more_runs, runs_text}
use Rattle.result_text.proofs.PassLines.{put_last, runs_front}
use Rattle.result_text.proofs.partials.put_runs.Goals as goal

pub put_run-requires-in-loop-run : goal.put_run-requires-in-loop-run
put_run-requires-in-loop-run c =
    let tail = All-tail (λ (s : Span). s.lo < s.hi) c.in-Some.first.now c.in-Some.rest.now (rw c.in-Some.ensures.cases.0 at c.requires) in grind (arith, common_steps, tail c.loop-run.run-index)

pub returns : goal.returns
returns c =
    let first = c.in-Some.first.now in
    let rest = c.in-Some.rest.now in
    let others : c.loop-run.text ≡ c.put_run.new.text ++ more_runs rest = put_last _ _ _ c.loop-run.invariant (ap more_runs (drop_all c.loop-run.run-index rest c.loop-run-test.false)) in
    others ∙ ap (λ l. l ++ more_runs rest) c.in_ok-put_run.ensures ∙ append_assoc c.args.text.now _ (more_runs rest)
    ∙ ap (λ l. c.args.text.now ++ l) (sym (runs_front first rest) ∙ ap runs_text (sym c.in-Some.ensures.cases.0))
